-- What a plan leaves in scratch, by its answer: scratch-by-answer.
use mathlib.Core.Path.{◌≡◌, refl, sym, ap, ◌∙◌}
use mathlib.Core.Bool.{Bool, true, false, cond}
use mathlib.Core.List.{List, [], ◌∷◌, ◌++◌}
use mathlib.Core.Logic.{inl, inr}
use Prim.Native.Nat.{ℕ}
use native.Mathlib.Omega.{arith}
use lib.Dec.{ltb}
use lib.ListN.{length, drop, replicate}
use lib.Ieee.{Float}
use Rattle.std.specs.Prelude.{Option, Some, None, Err}
use Rattle.vectors.specs.Number.{zero}
use Rattle.refusals.specs.Verdict.{passed}
use Rattle.refusals.specs.declared.Refusal.TheVariants.{NoAgent}
use Rattle.requests.specs.declared.Request.{Request}
use Rattle.requests.specs.Checks.{needed_scratch}
use Rattle.requests.specs.Reply as reply
use Rattle.requests.proofs.ReplyLaws.{renamed-number}
use Rattle.avoidance.specs.Velocity.{scratch_after}
use Rattle.avoidance.proofs.velocity.Places as call
use Rattle.planner.specs.Plan.{neighbour_indices, reply_for, reply_scratch}
use Rattle.planner.proofs.Replies.{reply-is, scratch-is}
use Rattle.fleet.specs.declared.Tick.{Tick}
use Rattle.fleet.specs.declared.Fleet.{Fleet}
use Rattle.fleet.specs.Answer.{number}
use Rattle.fleet.specs.Table.{agents, has_agent}
use Rattle.fleet.specs.Plan.{answered_by, plan_open, plan_in, plan_call, scratch_of, scratch_open, scratch_in, plan_scratch}
use Rattle.fleet.specs.Calls.{Call, step}
use Rattle.fleet.specs.Claims.{◌∈◌, plan_request, plan_neighbours, plan_reply, ScratchByAnswer}

-- ---- what the velocity call leaves, by number

module _ (request : Request) (neighbours scratch : List Float) where
  by-early : (n : ℕ) → n ∈ (8 ∷ 11 ∷ 1 ∷ 2 ∷ 3 ∷ 4 ∷ 5 ∷ 17 ∷ []) → call.left_by request neighbours scratch n ≡ scratch
  by-early n (inl e) = rw e
  by-early n (inr (inl e)) = rw e
  by-early n (inr (inr (inl e))) = rw e
  by-early n (inr (inr (inr (inl e)))) = rw e
  by-early n (inr (inr (inr (inr (inl e))))) = rw e
  by-early n (inr (inr (inr (inr (inr (inl e)))))) = rw e
  by-early n (inr (inr (inr (inr (inr (inr (inl e))))))) = rw e
  by-early n (inr (inr (inr (inr (inr (inr (inr (inl e)))))))) = rw e
  by-early n (inr (inr (inr (inr (inr (inr (inr (inr none)))))))) = absurd none

  by-late : (n : ℕ) → n ∈ (6 ∷ 7 ∷ 18 ∷ []) → call.left_by request neighbours scratch n ≡ replicate (needed_scratch neighbours) zero ++ drop (needed_scratch neighbours) scratch
  by-late n (inl e) = rw e
  by-late n (inr (inl e)) = rw e
  by-late n (inr (inr (inl e))) = rw e
  by-late n (inr (inr (inr none))) = absurd none

-- ---- in a tick

module _ (fleet : Fleet) (index : ℕ) (scratch : List Float) (tick : Tick) where
  abbrev asked : Request
  asked = plan_request fleet tick.time_step index

  abbrev neighbours : List Float
  neighbours = plan_neighbours fleet tick.rule index

  abbrev left : List Float
  left = scratch_open tick fleet index scratch

  abbrev answered : ℕ
  answered = number (plan_open tick fleet index (length scratch)).answer

  open-left : left ≡ call.left_by asked neighbours scratch answered
  unfolding scratch_open scratch_of plan_open answered_by has_agent
  open-left = go (ltb index (length (agents fleet)))
    where
      go : (there : Bool)
          → scratch_of (cond there passed (Err (NoAgent index))) scratch (reply_scratch tick.time_step tick.rule (agents fleet) index scratch)
          ≡ call.left_by asked neighbours scratch (number (answered_by (cond there passed (Err (NoAgent index))) fleet index (reply_for tick.time_step tick.rule (agents fleet) index (length scratch))).answer)
      go true =
          scratch-is tick.time_step tick.rule (agents fleet) index scratch
          ∙ call.scratch-left asked neighbours scratch
          ∙ ap (λ (n : ℕ). call.left_by asked neighbours scratch n) (sym (ap reply.number (reply-is tick.time_step tick.rule (agents fleet) index (length scratch)) ∙ renamed-number (neighbour_indices tick.rule (agents fleet) index) (plan_reply fleet tick.time_step tick.rule index scratch)))
      go false = refl

  open-planes : answered ≡ 0 → left ≡ scratch_after asked neighbours scratch
  unfolding scratch_open scratch_of plan_open answered_by has_agent
  open-planes = go (ltb index (length (agents fleet)))
    where
      go : (there : Bool) → number (answered_by (cond there passed (Err (NoAgent index))) fleet index (reply_for tick.time_step tick.rule (agents fleet) index (length scratch))).answer ≡ 0
          → scratch_of (cond there passed (Err (NoAgent index))) scratch (reply_scratch tick.time_step tick.rule (agents fleet) index scratch) ≡ scratch_after asked neighbours scratch
      go true e = scratch-is tick.time_step tick.rule (agents fleet) index scratch
      go false e = absurd (omega (arith, e))

  open-past : drop (needed_scratch neighbours) left ≡ drop (needed_scratch neighbours) scratch
  unfolding scratch_open scratch_of has_agent
  open-past = go (ltb index (length (agents fleet)))
    where
      go : (there : Bool) → drop (needed_scratch neighbours) (scratch_of (cond there passed (Err (NoAgent index))) scratch (reply_scratch tick.time_step tick.rule (agents fleet) index scratch)) ≡ drop (needed_scratch neighbours) scratch
      go true = ap (drop (needed_scratch neighbours)) (scratch-is tick.time_step tick.rule (agents fleet) index scratch) ∙ (call.scratch-by-answer asked neighbours scratch).past
      go false = refl

-- ---- a plan

module _ (fleet : Fleet) (index : ℕ) (scratch : List Float) where
  abbrev answer : ℕ
  answer = number (step fleet (Call.plan index scratch)).answer

  -- where a tick is open
  left_is : (tick : Option Tick) → fleet.tick ≡ tick → plan_scratch fleet index scratch ≡ scratch_in tick fleet index scratch
  unfolding plan_scratch
  left_is tick is = ap (λ (t : Option Tick). scratch_in t fleet index scratch) is

  answer-is : (tick : Option Tick) → fleet.tick ≡ tick → answer ≡ number (plan_in tick fleet index (length scratch)).answer
  unfolding step plan_call
  answer-is tick is = ap (λ (t : Option Tick). number (plan_in t fleet index (length scratch)).answer) is

  plan-left : (tick : Tick) → fleet.tick ≡ Some tick
      → plan_scratch fleet index scratch ≡ call.left_by (plan_request fleet tick.time_step index) (plan_neighbours fleet tick.rule index) scratch answer
  unfolding scratch_in plan_in
  plan-left tick is =
      left_is (Some tick) is
      ∙ open-left fleet index scratch tick
      ∙ ap (λ (n : ℕ). call.left_by (plan_request fleet tick.time_step index) (plan_neighbours fleet tick.rule index) scratch n) (sym (answer-is (Some tick) is))

  plan-untouched : answer ∈ (8 ∷ 11 ∷ 1 ∷ 2 ∷ 3 ∷ 4 ∷ 5 ∷ 17 ∷ []) → plan_scratch fleet index scratch ≡ scratch
  unfolding scratch_in
  plan-untouched early = go fleet.tick refl
    where
      go : (tick : Option Tick) → fleet.tick ≡ tick → plan_scratch fleet index scratch ≡ scratch
      go None is = left_is None is
      go (Some tick) is = plan-left tick is ∙ by-early (plan_request fleet tick.time_step index) (plan_neighbours fleet tick.rule index) scratch answer early

pub scratch-by-answer : ScratchByAnswer
unfolding scratch_in plan_in
scratch-by-answer fleet index scratch = record {
  untouched = plan-untouched fleet index scratch;
  cleared = λ tick is late. plan-left fleet index scratch tick is ∙ by-late (plan_request fleet tick.time_step index) (plan_neighbours fleet tick.rule index) scratch (answer fleet index scratch) late;
  planes = λ tick is e. left_is fleet index scratch (Some tick) is ∙ open-planes fleet index scratch tick (sym (answer-is fleet index scratch (Some tick) is) ∙ e);
  past = λ tick is. ap (drop (needed_scratch (plan_neighbours fleet tick.rule index))) (left_is fleet index scratch (Some tick) is) ∙ open-past fleet index scratch tick;
}
