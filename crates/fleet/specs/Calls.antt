-- The table's calls as values, the step that each makes, and document 01's conditions for refusing it, in their order.
-- That a call is refused with N exactly when N's condition is the first that holds is claimed in `Claims.antt`.
use Rattle.std.specs.Prelude.{ℕ, Bool, true, not, Option, Some, None, is_some, List, [], ◌∷◌, leb, length, take, Float}
use Rattle.vectors.specs.declared.Vec3.{Vec3}
use Rattle.vectors.specs.Number.{◌>ᶠ◌, zero, finite}
use Rattle.vectors.specs.Vec3.{finite_vec}
use Rattle.refusals.specs.Conditions.{some, marked}
use Rattle.requests.specs.declared.Request.{Request}
use Rattle.avoidance.specs.Conditions.{velocity_conditions}
use Rattle.records.specs.Record.{most_agents}
use Rattle.records.specs.Conditions.{record_conditions, file_conditions}
use Rattle.planner.specs.declared.Rule.{Rule}
use Rattle.planner.specs.Plan.{request_for, own_record, neighbours_of}
use Rattle.fleet.specs.declared.Tick.{Tick}
use Rattle.fleet.specs.declared.Fleet.{Fleet}
use Rattle.fleet.specs.declared.Called.{Called}
use Rattle.fleet.specs.Table.{agents, add_call, put_call, remove_call, read_call}
use Rattle.fleet.specs.Load.{load_call}
use Rattle.fleet.specs.Save.{short_buffer, save_call}
use Rattle.fleet.specs.Tick.{unplanned, astray, arrivals, open_call, goal_call, close_call, drop_call}
use Rattle.fleet.specs.Plan.{plan_call}

-- ---- calls

-- `start` is the call open
pub data Call : Type 0 where
  load : List ℕ → Call
  save : List ℕ → Call
  add : List ℕ → Call
  put : ℕ → List ℕ → Call
  remove : ℕ → Call
  read : ℕ → Call
  goal : ℕ → Vec3 → Call
  start : Float → Rule → Call
  plan : ℕ → List Float → Call
  close : Call
  drop : Call

unfoldable pub step : Fleet → Call → Called
step fleet (load file) = load_call fleet file
step fleet (save buffer) = record { answer = (save_call fleet (length buffer)).answer; fleet = (save_call fleet (length buffer)).fleet }
step fleet (add words) = add_call fleet words
step fleet (put index words) = put_call fleet index words
step fleet (remove index) = remove_call fleet index
step fleet (read index) = record { answer = (read_call fleet index).answer; fleet = (read_call fleet index).fleet }
step fleet (goal index v) = goal_call fleet index v
step fleet (start time_step rule) = open_call fleet time_step rule
step fleet (plan index scratch) = plan_call fleet index (length scratch)
step fleet close = close_call fleet
step fleet drop = drop_call fleet

-- ---- the conditions, each with its number

abbrev pub is_open : Option Tick → Bool
is_open tick = is_some tick

unfoldable pub no_agent : Fleet → ℕ → Bool
no_agent fleet index = leb (length (agents fleet)) index

-- those of a velocity call's on the standing records come last
unfoldable pub plan_conditions : (Request → List Float → ℕ → List (ℕ × Bool)) → Option Tick → Fleet → ℕ → ℕ → List (ℕ × Bool)
plan_conditions of_call None fleet index scratch_length = (11, true) ∷ []
plan_conditions of_call (Some tick) fleet index scratch_length =
    (8, no_agent fleet index) ∷ of_call (request_for (own_record (agents fleet) index) tick.time_step) (neighbours_of tick.rule (agents fleet) index) scratch_length

unfoldable pub close_conditions : Option Tick → Fleet → List (ℕ × Bool)
close_conditions None fleet = (11, true) ∷ []
close_conditions (Some tick) fleet =
    (12, some (marked unplanned 0 (take (length (agents fleet)) fleet.plans)))
    ∷ (13, some (marked astray 0 (arrivals tick.time_step (agents fleet) fleet.plans)))
    ∷ []

-- document 01's, in its order: 10 or 11 first, then 8 or 9 or 14, then record checks 15, 3, 4, 5, then 12 before 13, or plan's own; save's is 16 alone
unfoldable pub call_conditions : Fleet → Call → List (ℕ × Bool)
call_conditions fleet (load file) = (10, is_open fleet.tick) ∷ file_conditions file
call_conditions fleet (save buffer) = (16, short_buffer fleet (length buffer)) ∷ []
call_conditions fleet (add words) = (10, is_open fleet.tick) ∷ (9, leb most_agents (length (agents fleet))) ∷ record_conditions (record { words = words })
call_conditions fleet (put index words) = (10, is_open fleet.tick) ∷ (8, no_agent fleet index) ∷ record_conditions (record { words = words })
call_conditions fleet (remove index) = (10, is_open fleet.tick) ∷ (8, no_agent fleet index) ∷ []
call_conditions fleet (read index) = (8, no_agent fleet index) ∷ []
call_conditions fleet (goal index v) = (8, no_agent fleet index) ∷ (3, not (finite_vec v)) ∷ []
call_conditions fleet (start time_step rule) = (10, is_open fleet.tick) ∷ (3, not (finite time_step)) ∷ (4, not (time_step >ᶠ zero)) ∷ []
call_conditions fleet (plan index scratch) = plan_conditions velocity_conditions fleet.tick fleet index (length scratch)
call_conditions fleet close = close_conditions fleet.tick fleet
call_conditions fleet drop = (11, not (is_open fleet.tick)) ∷ []
