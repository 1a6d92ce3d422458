-- A fleet made by the calls holds nothing past its last agent.
--     within-empty: the empty fleet holds nothing there
--     within-kept: every call, answered or refused, on a fleet that holds nothing there hands back one that doesn't
--     within-run: and so does every run of calls
use mathlib.Core.Path.{◌≡◌, refl}
use mathlib.Core.List.{List, [], ◌∷◌}
use Prim.Native.Nat.{ℕ, ◌<◌}
use lib.Ieee.{Float}
use lib.ListN.{length}
use Rattle.std.specs.Prelude.{Option, Some, None, Ok, Err}
use Rattle.vectors.specs.declared.Vec3.{Vec3}
use Rattle.refusals.specs.declared.Refusal.TheVariants.{NoTick}
use Rattle.refusals.specs.Verdict.{Verdict, passed}
use Rattle.records.specs.declared.Record.{Record}
use Rattle.planner.specs.declared.Rule.{Rule}
use Rattle.planner.specs.Plan.{reply_for}
use Rattle.fleet.specs.declared.Tick.{Tick}
use Rattle.fleet.specs.declared.Fleet.{Fleet}
use Rattle.fleet.specs.Table.{agents, holding_nothing, settled, has_agent, added, add_call, put_call, removed, remove_call, read_call}
use Rattle.fleet.specs.Load.{loaded, load_call}
use Rattle.fleet.specs.Save.{save_call}
use Rattle.fleet.specs.Tick.{open_call, goal_verdict, hold_goal, goal_set, goal_call, ended, close_verdict, close_open, close_in, close_call, drop_call}
use Rattle.fleet.specs.Plan.{fleet_after, answered_by, plan_open, plan_in, plan_call}
use Rattle.fleet.specs.Calls.{Call, step}
use Rattle.fleet.specs.Runs.{after}
use Rattle.fleet.specs.Sound.{HeldWithin}
use Rattle.fleet.specs.Claims.{WithinEmpty, WithinKept, WithinRun}
use Rattle.fleet.proofs.Verdicts.{among-passed}
use Rattle.fleet.proofs.HeldGoals.{fit-index}
use Rattle.fleet.proofs.Storing.{none-past, held-past, plans-past}

-- ---- fleets that hold nothing

within-holding : (tick : Option Tick) (rs : List Record) → HeldWithin (holding_nothing tick rs)
unfolding holding_nothing
within-holding tick rs = record { no_plans = none-past (length rs); no_goals = none-past (length rs) }

pub within-empty : WithinEmpty
within-empty = within-holding None []

-- ---- one call

-- a refused call hands back the fleet that it was given
within-settled : (v : Verdict) (fleet next : Fleet) → HeldWithin fleet → (v ≡ passed → HeldWithin next) → HeldWithin (settled v fleet next).fleet
unfolding settled
within-settled (Ok _) fleet next within are-passed = are-passed refl
within-settled (Err r) fleet next within are-passed = within

module _ (fleet : Fleet) (within : HeldWithin fleet) where
  abbrev rs : List Record
  rs = agents fleet

  -- a call after which nothing is held
  holding-settled : (v : Verdict) (tick : Option Tick) (next : List Record) → HeldWithin (settled v fleet (holding_nothing tick next)).fleet
  holding-settled v tick next = within-settled v fleet (holding_nothing tick next) within (λ e. within-holding tick next)

  hold-within : (index : ℕ) (v : Vec3) → goal_verdict (length rs) index v ≡ passed → HeldWithin (hold_goal fleet index v)
  unfolding hold_goal
  hold-within index v are-passed = record {
    no_plans = within.no_plans;
    no_goals = held-past fleet.goals (length rs) index v (fit-index (length rs) index v are-passed) within.no_goals;
  }

  goal-within : (tick : Option Tick) (index : ℕ) (v : Vec3) → goal_verdict (length rs) index v ≡ passed → HeldWithin (goal_set tick fleet index v)
  unfolding goal_set
  goal-within None index v are-passed = within-holding None _
  goal-within (Some tick) index v are-passed = hold-within index v are-passed

  plan-within : (v : Verdict) (time_step : Float) (rule : Rule) (index k : ℕ) → (v ≡ passed → index < length rs)
      → HeldWithin (answered_by v fleet index (reply_for time_step rule rs index k)).fleet
  unfolding answered_by fleet_after
  plan-within (Ok _) time_step rule index k among = record {
    no_plans = plans-past time_step rule rs index k fleet.plans (among refl) within.no_plans;
    no_goals = within.no_goals;
  }
  plan-within (Err r) time_step rule index k among = within

  plan-in-within : (tick : Option Tick) (index k : ℕ) → HeldWithin (plan_in tick fleet index k).fleet
  unfolding plan_in plan_open has_agent
  plan-in-within None index k = within-settled (Err NoTick) fleet fleet within (λ e. within)
  plan-in-within (Some tick) index k = plan-within (has_agent fleet index) tick.time_step tick.rule index k (among-passed (length rs) index)

  close-within : (tick : Option Tick) → HeldWithin (close_in tick fleet).fleet
  unfolding close_in close_open ended
  close-within None = within-settled (Err NoTick) fleet fleet within (λ e. within)
  close-within (Some tick) = holding-settled (close_verdict tick.time_step rs fleet.plans) None _

-- ---- every call

pub within-kept : WithinKept
unfolding step load_call loaded save_call add_call added put_call remove_call removed read_call goal_call open_call plan_call close_call drop_call ended
within-kept fleet (Call.load file) within = holding-settled fleet within _ None _
within-kept fleet (Call.save buffer) within = within
within-kept fleet (Call.add words) within = holding-settled fleet within _ None _
within-kept fleet (Call.put index words) within = holding-settled fleet within _ None _
within-kept fleet (Call.remove index) within = holding-settled fleet within _ None _
within-kept fleet (Call.read index) within = within
within-kept fleet (Call.goal index v) within = within-settled _ fleet _ within (goal-within fleet within fleet.tick index v)
within-kept fleet (Call.start time_step rule) within = holding-settled fleet within _ (Some (record { time_step = time_step; rule = rule })) _
within-kept fleet (Call.plan index scratch) within = plan-in-within fleet within fleet.tick index (length scratch)
within-kept fleet Call.close within = close-within fleet within fleet.tick
within-kept fleet Call.drop within = holding-settled fleet within _ None _

-- ---- every run

pub within-run : WithinRun
unfolding after
within-run fleet [] within = within
within-run fleet (call ∷ calls) within = within-run (step fleet call).fleet calls (within-kept fleet call within)
