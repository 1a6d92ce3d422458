-- What a plan of a sound fleet answers.
--     plan-passes-on: 0, 2, 3 for the preferred velocity, 6, 18, 7, 8 or 11, and nothing else
use mathlib.Core.Path.{◌≡◌, refl, sym, ◌∙◌, subst}
use mathlib.Core.Bool.{Bool, true, false, cond}
use mathlib.Core.List.{List}
use Prim.Native.Nat.{ℕ, ◌<◌}
use native.Mathlib.Omega.{arith}
use lib.Dec.{ltb}
use lib.Ieee.{Float}
use lib.ListN.{length}
use borrow.Author.Tests.{ltb-true}
use Rattle.std.specs.Prelude.{Option, Some, None, Err}
use Rattle.vectors.specs.Number.{◌>ᶠ◌, finite, zero as zero32}
use Rattle.refusals.specs.Verdict.{passed}
use Rattle.refusals.specs.declared.Refusal.TheVariants.{NotFinite, OutOfRange, NoAgent}
use Rattle.refusals.proofs.Verdicts.{not-passed}
use Rattle.requests.specs.declared.Kind.TheVariants.{Positive}
use Rattle.requests.specs.Request.{time_step_place}
use Rattle.requests.specs.Checks.{outside}
use Rattle.requests.specs.Reply.{number, renamed, Reply}
use Rattle.requests.proofs.Ranges.{above_zero}
use Rattle.requests.proofs.ReplyLaws.{renamed-number, renamed-place}
use Rattle.requests.proofs.checks.CallNumbers.{Allowed, FitAgent}
use Rattle.avoidance.proofs.velocity.FitCalls.{FitReply, fit-call}
use Rattle.records.specs.declared.Record.{Record}
use Rattle.records.specs.Record.{agent_of}
use Rattle.records.proofs.FitRecords.{fit-agent}
use Rattle.planner.specs.declared.Rule.{Rule}
use Rattle.planner.specs.Plan.{request_for, own_record, neighbour_indices, neighbours_of, reply_for}
use Rattle.planner.proofs.Kept.{few-neighbours}
use Rattle.planner.proofs.Replies.{reply-is}
use Rattle.planner.proofs.FitPlans.{request-fit, neighbours-fit}
use Rattle.fleet.specs.declared.Answer.TheVariants as answer
use Rattle.fleet.specs.declared.Tick.{Tick}
use Rattle.fleet.specs.declared.Fleet.{Fleet}
use Rattle.fleet.specs.Table.{agents, settled, has_agent}
use Rattle.fleet.specs.Tick.{step_verdict}
use Rattle.fleet.specs.Plan.{answered_by, plan_open, plan_in, plan_call}
use Rattle.fleet.specs.Calls.{step}
use Rattle.fleet.specs.Sound.{Stored, Ticking, Sound, PassesOn}
use Rattle.fleet.specs.Claims.{PlanPassesOn}

-- ---- what the velocity call is given

step-allowed : (time_step : Float) → step_verdict time_step ≡ passed → Allowed Positive time_step
unfolding step_verdict
step-allowed time_step = go (finite time_step) (time_step >ᶠ zero32) (above_zero time_step)
  where
    go : (a b : Bool) → (b ≡ true → outside Positive time_step ≡ false)
        → cond a (cond b passed (Err (OutOfRange time_step_place))) (Err (NotFinite time_step_place)) ≡ passed → (a ≡ true) × (outside Positive time_step ≡ false)
    go true true inside e = (refl, inside refl)
    go true false inside e = not-passed e
    go false b inside e = not-passed e

stored-agent : (r : Record) → Stored r → FitAgent (agent_of r)
stored-agent r ok = fit-agent r ok.passes ok.words

-- ---- what is passed on of its reply

passed_on : (names : List ℕ) (reply : Reply) → FitReply reply → PassesOn (answer.Plan (renamed names reply))
passed_on names reply (FitReply.is_answer e) = PassesOn.answered (renamed-number names reply ∙ e)
passed_on names reply (FitReply.short_of e) = PassesOn.short_scratch (renamed-number names reply ∙ e)
passed_on names reply (FitReply.far_preferred e low high) =
    let other : number reply ≡ 6 → ⊥ = λ six. omega arith in
    let place = renamed-place names reply other in
    PassesOn.far_goal (renamed-number names reply ∙ e) (omega (arith, place)) (omega (arith, place))
passed_on names reply (FitReply.plane_not_finite e) = PassesOn.plane_not_finite (renamed-number names reply ∙ e)
passed_on names reply (FitReply.bad_clamp e) = PassesOn.bad_clamp (renamed-number names reply ∙ e)
passed_on names reply (FitReply.no_velocity e) = PassesOn.no_velocity (renamed-number names reply ∙ e)

module _ (fleet : Fleet) (sound : Sound fleet) (index k : ℕ) where
  abbrev rs : List Record
  rs = agents fleet

  reply-passes : (time_step : Float) (rule : Rule) → step_verdict time_step ≡ passed → index < length rs → PassesOn (answer.Plan (reply_for time_step rule rs index k))
  reply-passes time_step rule accepted there =
      let names = neighbour_indices rule rs index in
      let own = own_record rs index in
      let stored = sound.stored index there in
      subst (λ (r : Reply). PassesOn (answer.Plan r)) (sym (reply-is time_step rule rs index k))
      (passed_on names _
      (fit-call (request_for own time_step) (neighbours_of rule rs index) (length names) k
      (request-fit own time_step stored.passes stored.words (step-allowed time_step accepted)) (neighbours-fit rule rs index (λ i below. stored-agent _ (sound.stored i below)))
      (omega (arith, sound.few, (few-neighbours rule rs index there).1))))

  open-passes : (tick : Tick) → step_verdict tick.time_step ≡ passed → PassesOn (plan_open tick fleet index k).answer
  unfolding plan_open has_agent answered_by
  open-passes tick accepted = go (ltb index (length rs)) refl
    where
      go : (b : Bool) → ltb index (length rs) ≡ b → PassesOn (answered_by (cond b passed (Err (NoAgent index))) fleet index (reply_for tick.time_step tick.rule rs index k)).answer
      go true is = reply-passes tick.time_step tick.rule accepted (ltb-true index (length rs) is)
      go false is = PassesOn.no_agent refl

  tick-passes : (tick : Option Tick) → Ticking tick → PassesOn (plan_in tick fleet index k).answer
  unfolding plan_in settled
  tick-passes None ticking = PassesOn.no_tick refl
  tick-passes (Some tick) ticking = open-passes tick ticking

pub plan-passes-on : PlanPassesOn
unfolding step plan_call
plan-passes-on fleet sound index scratch = tick-passes fleet sound index (length scratch) fleet.tick sound.ticking
