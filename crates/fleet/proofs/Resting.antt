-- A fleet made by the calls is at rest outside a tick: nothing is held.
--     rests-empty: the empty fleet is
--     rests-kept: every call, answered or refused, keeps it so
--     rests-run: and so does every run of calls
use mathlib.Core.Path.{◌≡◌, refl, sym, ap, ◌∙◌}
use mathlib.Core.List.{List, [], ◌∷◌}
use Prim.Native.Nat.{ℕ}
use native.Mathlib.Omega.{arith}
use lib.ListN.{length}
use Rattle.std.specs.Prelude.{Option, Some, None, Ok, Err}
use Rattle.vectors.specs.declared.Vec3.{Vec3}
use Rattle.records.specs.declared.Record.{Record}
use Rattle.fleet.specs.declared.Tick.{Tick}
use Rattle.fleet.specs.declared.Fleet.{Fleet}
use Rattle.fleet.specs.Table.{agents, holding_nothing, fleet_of, settled, added, add_call, put_call, removed, remove_call, read_call}
use Rattle.fleet.specs.Load.{loaded, load_call}
use Rattle.fleet.specs.Save.{save_call}
use Rattle.fleet.specs.Tick.{open_call, hold_goal, goal_set, goal_call, ended, close_open, close_in, close_call, drop_call}
use Rattle.fleet.specs.Plan.{plan_in, plan_call}
use Rattle.fleet.specs.Calls.{Call, step}
use Rattle.fleet.specs.Runs.{after}
use Rattle.fleet.specs.Sound.{Resting}
use Rattle.fleet.specs.Claims.{RestsEmpty, RestsRun}
use Rattle.fleet.proofs.InTurn.{plan-alters}
use Rattle.refusals.specs.Verdict.{Verdict}

not-shut : {P : Type 0} {tick : Tick} → Some tick ≡ None → P
not-shut e = let z : ◌≡◌ {A = ℕ} 0 1 = cc in absurd (omega arith)

rests-of : (rs : List Record) → Resting (fleet_of rs)
unfolding holding_nothing
rests-of rs is-shut = refl

rests-open : (tick : Tick) (rs : List Record) → Resting (holding_nothing (Some tick) rs)
unfolding holding_nothing
rests-open tick rs is-shut = not-shut is-shut

rests-settled : (v : Verdict) (fleet next : Fleet) → Resting fleet → Resting next → Resting (settled v fleet next).fleet
unfolding settled
rests-settled (Ok _) fleet next rests more = more
rests-settled (Err refusal) fleet next rests more = rests

rests-goal : (tick : Option Tick) (fleet : Fleet) (index : ℕ) (v : Vec3) → fleet.tick ≡ tick → Resting (goal_set tick fleet index v)
unfolding goal_set hold_goal
rests-goal None fleet index v is = rests-of _
rests-goal (Some tick) fleet index v is = λ is-shut. not-shut (sym is ∙ is-shut)

-- outside a tick a plan is refused
rests-plan : (tick : Option Tick) (fleet : Fleet) (index k : ℕ) → fleet.tick ≡ tick → Resting fleet → Resting (plan_in tick fleet index k).fleet
unfolding plan_in settled plan_call
rests-plan None fleet index k is rests = rests
rests-plan (Some opened) fleet index k is rests =
    λ is-shut. not-shut (sym is ∙ sym (plan-alters fleet index k).tick ∙ ap (λ (tick : Option Tick). (plan_in tick fleet index k).fleet.tick) is ∙ is-shut)

rests-close : (tick : Option Tick) (fleet : Fleet) → Resting fleet → Resting (close_in tick fleet).fleet
unfolding close_in close_open ended
rests-close None fleet rests = rests-settled _ fleet fleet rests rests
rests-close (Some tick) fleet rests = rests-settled _ fleet _ rests (rests-of _)

pub rests-empty : RestsEmpty
rests-empty = rests-of []

pub rests-kept : (fleet : Fleet) (call : Call) → Resting fleet → Resting (step fleet call).fleet
unfolding step load_call loaded save_call add_call added put_call remove_call removed read_call goal_call open_call plan_call close_call drop_call ended
rests-kept fleet (Call.load file) rests = rests-settled _ fleet _ rests (rests-of _)
rests-kept fleet (Call.save buffer) rests = rests
rests-kept fleet (Call.add words) rests = rests-settled _ fleet _ rests (rests-of _)
rests-kept fleet (Call.put index words) rests = rests-settled _ fleet _ rests (rests-of _)
rests-kept fleet (Call.remove index) rests = rests-settled _ fleet _ rests (rests-of _)
rests-kept fleet (Call.read index) rests = rests
rests-kept fleet (Call.goal index v) rests = rests-settled _ fleet _ rests (rests-goal fleet.tick fleet index v refl)
rests-kept fleet (Call.start time_step rule) rests = rests-settled _ fleet _ rests (rests-open (record { time_step = time_step; rule = rule }) (agents fleet))
rests-kept fleet (Call.plan index scratch) rests = rests-plan fleet.tick fleet index (length scratch) refl rests
rests-kept fleet Call.close rests = rests-close fleet.tick fleet rests
rests-kept fleet Call.drop rests = rests-settled _ fleet _ rests (rests-of _)

pub rests-run : RestsRun
unfolding after
rests-run fleet [] rests = rests
rests-run fleet (call ∷ calls) rests = rests-run (step fleet call).fleet calls (rests-kept fleet call rests)
