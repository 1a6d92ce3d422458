-- The tick: the calls open, goal, close and drop.
use Rattle.std.specs.Prelude.{ℕ, ◌+◌, Bool, not, cond, Option, Some, None, is_some, Err, List, [], ◌∷◌, length, get_or, take, set, Float}
use Rattle.vectors.specs.declared.Vec3.{Vec3}
use Rattle.vectors.specs.Number.{◌>ᶠ◌, zero, finite}
use Rattle.vectors.specs.Vec3.{finite_vec, ◌+ᵥ◌, ◌*ᵥ◌}
use Rattle.refusals.specs.declared.Refusal.TheVariants.{NotFinite, OutOfRange, NoTick, Unplanned, PositionNotFinite}
use Rattle.refusals.specs.Conditions.{first_bad}
use Rattle.refusals.specs.Verdict.{Verdict, passed, ◌⊳◌, refused_at}
use Rattle.requests.specs.Request.{time_step_place}
use Rattle.records.specs.declared.Record.{Record}
use Rattle.records.specs.Record.{goal_word, blank, position_of, with_goal, moved_to}
use Rattle.records.specs.Checks.{index_among}
use Rattle.planner.specs.declared.Rule.{Rule}
use Rattle.fleet.specs.declared.Tick.{Tick}
use Rattle.fleet.specs.declared.Fleet.{Fleet}
use Rattle.fleet.specs.declared.Called.{Called}
use Rattle.fleet.specs.Table.{agents, holding_nothing, fleet_of, settled, shut}

-- two lists, element by element
unfoldable pub each : {A B C : Type 0} → (A → B → C) → List A → List B → List C
each f [] ys = []
each f (x ∷ xs) [] = []
each f (x ∷ xs) (y ∷ ys) = f x y ∷ each f xs ys

-- ---- open

-- the time step is at its place in the velocity call
unfoldable pub step_verdict : Float → Verdict
step_verdict time_step =
    cond (finite time_step) (cond (time_step >ᶠ zero) passed (Err (OutOfRange time_step_place))) (Err (NotFinite time_step_place))

unfoldable pub open_verdict : Option Tick → Float → Verdict
open_verdict tick time_step = shut tick ⊳ step_verdict time_step

unfoldable pub open_call : Fleet → Float → Rule → Called
open_call fleet time_step rule =
    settled (open_verdict fleet.tick time_step) fleet (holding_nothing (Some (record { time_step = time_step; rule = rule })) (agents fleet))

-- ---- goal

-- the first component that is not finite; a goal's components stand in three words
unfoldable pub goal_fault : Vec3 → Option ℕ
goal_fault goal =
    cond (finite goal.x) (cond (finite goal.y) (cond (finite goal.z) None (Some (goal_word + 2))) (Some (goal_word + 1))) (Some goal_word)

-- 8, where there are `count` agents, then 3
unfoldable pub goal_verdict : ℕ → ℕ → Vec3 → Verdict
goal_verdict count index goal = index_among count index ⊳ refused_at (goal_fault goal) NotFinite

-- held for the agent at the index, in place of an earlier one
unfoldable pub with_held : List (Option Vec3) → ℕ → Vec3 → List (Option Vec3)
with_held held index v = set held index (Some v)

-- in a tick it is held: of those taken up in call order, the last one stands
unfoldable pub hold_goal : Fleet → ℕ → Vec3 → Fleet
hold_goal fleet index goal = record {
  standing = fleet.standing;
  tick = fleet.tick;
  plans = fleet.plans;
  goals = with_held fleet.goals index goal;
}

unfoldable pub goal_set : Option Tick → Fleet → ℕ → Vec3 → Fleet
goal_set None fleet index goal = fleet_of (set (agents fleet) index (with_goal goal (get_or (agents fleet) index blank)))
goal_set (Some tick) fleet index goal = hold_goal fleet index goal

unfoldable pub goal_call : Fleet → ℕ → Vec3 → Called
goal_call fleet index goal =
    settled (goal_verdict (length (agents fleet)) index goal) fleet (goal_set fleet.tick fleet index goal)

-- ---- held goals, taken up by close and drop

unfoldable pub goal_taken : Record → Option Vec3 → Record
goal_taken r None = r
goal_taken r (Some goal) = with_goal goal r

unfoldable pub goals_taken : List Record → List (Option Vec3) → List Record
goals_taken rs goals = each goal_taken rs goals

-- the fleet after a tick that leaves it with these records
unfoldable pub ended : List Record → List (Option Vec3) → Fleet
ended rs goals = fleet_of (goals_taken rs goals)

-- ---- close

-- no velocity is planned for an agent
abbrev pub unplanned : ℕ → Option Vec3 → Bool
unplanned index plan = not (is_some plan)

-- where a plan takes an agent
unfoldable pub arrival : Float → Record → Option Vec3 → Vec3
arrival time_step r None = position_of r
arrival time_step r (Some velocity) = position_of r +ᵥ velocity *ᵥ time_step

-- a position with a component that is not finite
abbrev pub astray : ℕ → Vec3 → Bool
astray index position = not (finite_vec position)

unfoldable pub moved_by : Float → Record → Option Vec3 → Record
moved_by time_step r None = r
moved_by time_step r (Some velocity) = moved_to r (arrival time_step r (Some velocity)) velocity

unfoldable pub arrivals : Float → List Record → List (Option Vec3) → List Vec3
arrivals time_step rs plans = each (arrival time_step) rs plans

unfoldable pub all_moved : Float → List Record → List (Option Vec3) → List Record
all_moved time_step rs plans = each (moved_by time_step) rs plans

-- 12 before 13
unfoldable pub close_verdict : Float → List Record → List (Option Vec3) → Verdict
close_verdict time_step rs plans =
    refused_at (first_bad unplanned 0 (take (length rs) plans)) Unplanned
    ⊳ refused_at (first_bad astray 0 (arrivals time_step rs plans)) PositionNotFinite

unfoldable pub close_open : Float → Fleet → Called
close_open time_step fleet =
    settled (close_verdict time_step (agents fleet) fleet.plans) fleet
    (ended (all_moved time_step (agents fleet) fleet.plans) fleet.goals)

unfoldable pub close_in : Option Tick → Fleet → Called
close_in None fleet = settled (Err NoTick) fleet fleet
close_in (Some tick) fleet = close_open tick.time_step fleet

unfoldable pub close_call : Fleet → Called
close_call fleet = close_in fleet.tick fleet

-- ---- drop

unfoldable pub opened : Option Tick → Verdict
opened None = Err NoTick
opened (Some tick) = passed

unfoldable pub drop_call : Fleet → Called
drop_call fleet = settled (opened fleet.tick) fleet (ended (agents fleet) fleet.goals)
