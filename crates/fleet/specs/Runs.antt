-- Runs of calls, as lists: what they make of a fleet, and the run that a tick's calls come to whatever their order.
-- That they do is demand 3, claimed in `Claims.antt`.
use Rattle.std.specs.Prelude.{ℕ, zero, suc, Bool, true, false, not, ◌&&◌, cond, List, [], ◌∷◌, ◌++◌, eqb, length, Float}
use Rattle.vectors.specs.declared.Vec3.{Vec3}
use Rattle.fleet.specs.declared.Answer.{Answer}
use Rattle.fleet.specs.declared.Fleet.{Fleet}
use Rattle.fleet.specs.Answer.{number}
use Rattle.fleet.specs.Table.{agents}
use Rattle.fleet.specs.Calls.{Call, step}

-- ---- runs

unfoldable pub after : Fleet → List Call → Fleet
after fleet [] = fleet
after fleet (call ∷ calls) = after (step fleet call).fleet calls

-- each call of a run, with its answer
unfoldable pub run : Fleet → List Call → List (Call × Answer)
run fleet [] = []
run fleet (call ∷ calls) = (call, (step fleet call).answer) ∷ run (step fleet call).fleet calls

unfoldable pub accepted : Fleet → Call → Bool
accepted fleet call = eqb (number (step fleet call).answer) 0

-- ---- calls within a tick

-- a call leaves an open tick open unless it is drop, or a close that is accepted
unfoldable pub stays : Fleet → Call → Bool
stays fleet (Call.load file) = true
stays fleet (Call.save buffer) = true
stays fleet (Call.add words) = true
stays fleet (Call.put index words) = true
stays fleet (Call.remove index) = true
stays fleet (Call.read index) = true
stays fleet (Call.goal index v) = true
stays fleet (Call.start time_step rule) = true
stays fleet (Call.plan index scratch) = true
stays fleet Call.close = not (accepted fleet Call.close)
stays fleet Call.drop = false

unfoldable pub stays_open : Fleet → List Call → Bool
stays_open fleet [] = true
stays_open fleet (call ∷ calls) = stays fleet call && stays_open (step fleet call).fleet calls

-- ---- goals

-- a goal call's index and goal, where it is accepted
unfoldable pub goal_in : Fleet → Call → List (ℕ × Vec3)
goal_in fleet (Call.load file) = []
goal_in fleet (Call.save buffer) = []
goal_in fleet (Call.add words) = []
goal_in fleet (Call.put index words) = []
goal_in fleet (Call.remove index) = []
goal_in fleet (Call.read index) = []
goal_in fleet (Call.goal index v) = cond (accepted fleet (Call.goal index v)) ((index, v) ∷ []) []
goal_in fleet (Call.start time_step rule) = []
goal_in fleet (Call.plan index scratch) = []
goal_in fleet Call.close = []
goal_in fleet Call.drop = []

-- those of a run, in call order
unfoldable pub goals_of : Fleet → List Call → List (ℕ × Vec3)
goals_of fleet [] = []
goals_of fleet (call ∷ calls) = goal_in fleet call ++ goals_of (step fleet call).fleet calls

unfoldable pub goal_calls : List (ℕ × Vec3) → List Call
goal_calls [] = []
goal_calls ((index, v) ∷ goals) = Call.goal index v ∷ goal_calls goals

-- ---- the canonical run

-- the agents from index i on, so many of them, planned one after another
unfoldable pub in_order : ℕ → ℕ → List Float → List Call
in_order i zero scratch = []
in_order i (suc n) scratch = Call.plan i scratch ∷ in_order (suc i) n scratch

-- agents 0, 1, 2 and on are planned, the tick is closed, and the goals are then set
unfoldable pub canonical : Fleet → List Float → List (ℕ × Vec3) → List Call
canonical fleet scratch goals = in_order 0 (length (agents fleet)) scratch ++ Call.close ∷ goal_calls goals
