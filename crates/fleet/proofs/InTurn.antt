-- A tick's calls made one after another: what the canonical run comes to call by call, and what a drop gives back.
--     in-order-none, in-order-more: agents planned in their order are those before the last, and then the last
--     canonical-closes: the canonical run with no goals is every agent planned in its order, and then the close
--     open-refused, close-refused: refused, they hand back the very fleet that they were given
--     started: the call open, as a step
--     open-shut: it is accepted only outside a tick
--     plan-alters: a plan alters nothing but what is planned
--     dropped-back: a drop, after an opening and what alters nothing but plans, gives back the fleet of the records that stood
use mathlib.Core.Path.{◌≡◌, refl, ap, ◌∙◌}
use mathlib.Core.List.{List, [], ◌∷◌}
use Prim.Native.Nat.{ℕ, zero, suc, ◌+◌, ◌≤◌}
use native.Mathlib.Omega.{arith}
use lib.ListN.{length}
use lib.Ieee.{Float}
use Rattle.arrayvec.specs.ArrayVec.{ArrayVec}
use Rattle.std.specs.Prelude.{Option, Some, None, Ok, Err}
use Rattle.vectors.specs.declared.Vec3.{Vec3}
use Rattle.refusals.specs.Verdict.{Verdict, passed}
use Rattle.refusals.proofs.Verdicts.{not-passed, both-passed}
use Rattle.records.specs.declared.Record.{Record}
use Rattle.records.specs.Record.{most_agents}
use Rattle.planner.specs.declared.Rule.{Rule}
use Rattle.planner.specs.Plan.{reply_for}
use Rattle.fleet.specs.declared.Tick.{Tick}
use Rattle.fleet.specs.declared.Fleet.{Fleet}
use Rattle.fleet.specs.Answer.{number}
use Rattle.fleet.specs.Table.{agents, nothing_held, holding_nothing, fleet_of, settled, shut, has_agent}
use Rattle.fleet.specs.Tick.{step_verdict, open_verdict, open_call, ended, close_call, opened, drop_call}
use Rattle.fleet.specs.Plan.{fleet_after, answered_by, plan_open, plan_in, plan_call}
use Rattle.fleet.specs.Calls.{Call, step}
use Rattle.fleet.specs.Runs.{after, goal_calls, in_order, canonical}
use Rattle.fleet.proofs.Verdicts.{settled-passes}
use Rattle.fleet.proofs.HeldGoals.{taken_none}
use Rattle.fleet.proofs.Refusals.{refused-unchanged}
use Rattle.fleet.proofs.AnyOrder.{after-append}
use Rattle.requests.specs.Reply.{Reply}

-- ---- the canonical run, call by call

pub in-order-none : (fleet : Fleet) (scratch : List Float) → after fleet (in_order 0 zero scratch) ≡ fleet
unfolding after in_order
in-order-none fleet scratch = refl

in-order-from : (fleet : Fleet) (i n : ℕ) (scratch : List Float)
    → after fleet (in_order i (suc n) scratch) ≡ (plan_call (after fleet (in_order i n scratch)) (i + n) (length scratch)).fleet
unfolding after in_order step
in-order-from fleet i zero scratch =
    let same : i ≡ i + zero = omega arith in
    ap (λ (j : ℕ). (plan_call fleet j (length scratch)).fleet) same
in-order-from fleet i (suc n) scratch =
    let next = (plan_call fleet i (length scratch)).fleet in
    let same : suc i + n ≡ i + suc n = omega arith in
    in-order-from next (suc i) n scratch ∙ ap (λ (j : ℕ). (plan_call (after next (in_order (suc i) n scratch)) j (length scratch)).fleet) same

pub in-order-more : (fleet : Fleet) (n : ℕ) (scratch : List Float)
    → after fleet (in_order 0 (suc n) scratch) ≡ (plan_call (after fleet (in_order 0 n scratch)) n (length scratch)).fleet
in-order-more fleet n scratch =
    let same : 0 + n ≡ n = omega arith in
    in-order-from fleet 0 n scratch ∙ ap (λ (j : ℕ). (plan_call (after fleet (in_order 0 n scratch)) j (length scratch)).fleet) same

pub canonical-closes : (fleet : Fleet) (scratch : List Float)
    → after fleet (canonical fleet scratch []) ≡ (close_call (after fleet (in_order 0 (length (agents fleet)) scratch))).fleet
unfolding canonical goal_calls after step
canonical-closes fleet scratch = after-append fleet (in_order 0 (length (agents fleet)) scratch) (Call.close ∷ [])

-- ---- refused calls

pub open-refused : (fleet : Fleet) (time_step : Float) (rule : Rule) → (number (open_call fleet time_step rule).answer ≡ 0 → ⊥)
    → (open_call fleet time_step rule).fleet ≡ fleet
unfolding step
open-refused fleet time_step rule = refused-unchanged fleet (Call.start time_step rule)

pub close-refused : (fleet : Fleet) → (number (close_call fleet).answer ≡ 0 → ⊥) → (close_call fleet).fleet ≡ fleet
unfolding step
close-refused fleet = refused-unchanged fleet Call.close

-- ---- an opening that is accepted

pub started : (fleet : Fleet) (time_step : Float) (rule : Rule) → step fleet (Call.start time_step rule) ≡ open_call fleet time_step rule
unfolding step
started fleet time_step rule = refl

module _ (fleet : Fleet) (time_step : Float) (rule : Rule) (opens : number (open_call fleet time_step rule).answer ≡ 0) where
  open-passed : open_verdict fleet.tick time_step ≡ passed
  unfolding open_call
  open-passed = settled-passes (open_verdict fleet.tick time_step) fleet _ opens

  pub open-shut : fleet.tick ≡ None
  unfolding open_verdict shut
  open-shut = go fleet.tick (both-passed (shut fleet.tick) (step_verdict time_step) open-passed).0
    where
      go : (tick : Option Tick) → shut tick ≡ passed → tick ≡ None
      go None e = refl
      go (Some tick) e = not-passed e

  is-opened : (open_call fleet time_step rule).fleet ≡ holding_nothing (Some (record { time_step = time_step; rule = rule })) (agents fleet)
  unfolding open_call settled
  is-opened = ap (λ (v : Verdict). (settled v fleet (holding_nothing (Some (record { time_step = time_step; rule = rule })) (agents fleet))).fleet) open-passed

-- ---- plans, and a drop

pub record ButPlans (fleet next : Fleet) : Type 0 where
  pub standing : next.standing ≡ fleet.standing
  pub tick : next.tick ≡ fleet.tick
  pub goals : next.goals ≡ fleet.goals

pub unaltered : (fleet : Fleet) → ButPlans fleet fleet
unaltered fleet = record { standing = refl; tick = refl; goals = refl }

pub alters-more : {fleet next last : Fleet} → ButPlans fleet next → ButPlans next last → ButPlans fleet last
alters-more first more = record {
  standing = more.standing ∙ first.standing;
  tick = more.tick ∙ first.tick;
  goals = more.goals ∙ first.goals;
}

answer-alters : (v : Verdict) (fleet : Fleet) (index : ℕ) (r : Reply) → ButPlans fleet (answered_by v fleet index r).fleet
unfolding answered_by fleet_after
answer-alters (Ok _) fleet index r = record { standing = refl; tick = refl; goals = refl }
answer-alters (Err refusal) fleet index r = unaltered fleet

pub plan-alters : (fleet : Fleet) (index k : ℕ) → ButPlans fleet (plan_call fleet index k).fleet
unfolding plan_call plan_in plan_open settled
plan-alters fleet index k = go fleet.tick
  where
    go : (tick : Option Tick) → ButPlans fleet (plan_in tick fleet index k).fleet
    go None = unaltered fleet
    go (Some tick) = answer-alters (has_agent fleet index) fleet index (reply_for tick.time_step tick.rule (agents fleet) index k)

drop-opened : (rs : List Record) (time_step : Float) (rule : Rule) (next : Fleet) → length rs ≤ most_agents → ButPlans (holding_nothing (Some (record { time_step = time_step; rule = rule })) rs) next
    → (drop_call next).fleet ≡ fleet_of rs
unfolding drop_call settled opened holding_nothing ended nothing_held
drop-opened rs time_step rule next few same =
    ap (λ (tick : Option Tick). (settled (opened tick) next (ended (agents next) next.goals)).fleet) same.tick
    ∙ ap (λ (standing : ArrayVec Record). ended standing.items next.goals) same.standing
    ∙ ap (λ (goals : List (Option Vec3)). ended (agents (fleet_of rs)) goals) same.goals
    ∙ ap fleet_of (taken_none most_agents rs few)

pub dropped-back : (fleet : Fleet) (time_step : Float) (rule : Rule) (next : Fleet) → length (agents fleet) ≤ most_agents → number (open_call fleet time_step rule).answer ≡ 0
    → ButPlans (open_call fleet time_step rule).fleet next → (drop_call next).fleet ≡ fleet_of (agents fleet)
dropped-back fleet time_step rule next few opens same =
    drop-opened (agents fleet) time_step rule next few (rw (is-opened fleet time_step rule opens) at same)
