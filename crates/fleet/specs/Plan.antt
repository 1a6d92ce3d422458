-- The call plan: the velocity call on the standing records, with the neighbours that the tick's rule keeps.
use Rattle.std.specs.Prelude.{ℕ, cond, Option, Some, None, Ok, Err, List, Float}
use Rattle.vectors.specs.declared.Vec3.{Vec3}
use Rattle.refusals.specs.Verdict.{Verdict}
use Rattle.refusals.specs.declared.Refusal.TheVariants.{NoTick}
use Rattle.requests.specs.Reply.{Reply, is_answered, velocity_of}
use Rattle.planner.specs.Plan.{reply_for, reply_scratch}
use Rattle.fleet.specs.declared.Answer.TheVariants as answer
use Rattle.fleet.specs.declared.Tick.{Tick}
use Rattle.fleet.specs.declared.Fleet.{Fleet}
use Rattle.fleet.specs.declared.Called.{Called}
use Rattle.fleet.specs.Table.{agents, settled, has_agent}
use Rattle.fleet.specs.Tick.{with_held}

-- ---- plan

-- an answered velocity is held until the tick ends; a refusal leaves an earlier one standing
unfoldable pub plans_after : List (Option Vec3) → ℕ → Reply → List (Option Vec3)
plans_after plans index reply = cond (is_answered reply) (with_held plans index (velocity_of reply)) plans

unfoldable pub fleet_after : Fleet → ℕ → Reply → Fleet
fleet_after fleet index reply = record {
  standing = fleet.standing;
  tick = fleet.tick;
  plans = plans_after fleet.plans index reply;
  goals = fleet.goals;
}

unfoldable pub answered_by : Verdict → Fleet → ℕ → Reply → Called
answered_by (Ok _) fleet index reply = record { answer = answer.Plan reply; fleet = fleet_after fleet index reply }
answered_by (Err refusal) fleet index reply = record { answer = answer.Refused refusal; fleet = fleet }

unfoldable pub plan_open : Tick → Fleet → ℕ → ℕ → Called
plan_open tick fleet index scratch_length =
    answered_by (has_agent fleet index) fleet index (reply_for tick.time_step tick.rule (agents fleet) index scratch_length)

unfoldable pub plan_in : Option Tick → Fleet → ℕ → ℕ → Called
plan_in None fleet index scratch_length = settled (Err NoTick) fleet fleet
plan_in (Some tick) fleet index scratch_length = plan_open tick fleet index scratch_length

unfoldable pub plan_call : Fleet → ℕ → ℕ → Called
plan_call fleet index scratch_length = plan_in fleet.tick fleet index scratch_length

-- ---- what is left in scratch: untouched for 8 and 11, else as the velocity call leaves it

unfoldable pub scratch_of : Verdict → List Float → List Float → List Float
scratch_of (Ok _) scratch after = after
scratch_of (Err refusal) scratch after = scratch

unfoldable pub scratch_open : Tick → Fleet → ℕ → List Float → List Float
scratch_open tick fleet index scratch =
    scratch_of (has_agent fleet index) scratch (reply_scratch tick.time_step tick.rule (agents fleet) index scratch)

unfoldable pub scratch_in : Option Tick → Fleet → ℕ → List Float → List Float
scratch_in None fleet index scratch = scratch
scratch_in (Some tick) fleet index scratch = scratch_open tick fleet index scratch

unfoldable pub plan_scratch : Fleet → ℕ → List Float → List Float
plan_scratch fleet index scratch = scratch_in fleet.tick fleet index scratch
