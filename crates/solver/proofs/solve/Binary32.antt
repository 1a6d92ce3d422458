-- The solver's value is a vector of binary32 numbers where the preferred point is: each value on the way is a sum, a difference or a product of vectors, that point, or an earlier value.
-- On a line and on a plane it is one whatever the optimum; in the sphere, where the start is.
use mathlib.Core.List.{List, []}
use Prim.Native.Nat.{ℕ}
use Rattle.std.specs.Prelude.{Option, Some, None}
use lib.ListN.{length, take, drop}
use lib.Ieee.{Float, neg}
use Rattle.vectors.specs.declared.Vec3.{Vec3}
use Rattle.vectors.specs.Number.{◌⊕◌, ◌⊖◌, ◌⊗◌, ◌<ᶠ◌, ◌≤ᶠ◌, ◌>ᶠ◌, ◌≥ᶠ◌, zero, rvo_epsilon}
use Rattle.vectors.specs.Vec3.{◌-ᵥ◌, ◌*ᵥ◌, dot, cross, length_squared, IsBinary32}
use Rattle.vectors.proofs.Stored.{sum_is, difference-is, product_is, zero_is}
use Rattle.solver.specs.declared.Plane.{Plane}
use Rattle.solver.specs.declared.Line.{Line}
use Rattle.solver.specs.declared.Optimum.{Optimum}
use Rattle.solver.specs.declared.Optimum.TheVariants.{Point, Direction}
use Rattle.solver.specs.declared.OnLine.{OnLine}
use Rattle.solver.specs.declared.OnLine.TheVariants as onLine
use Rattle.solver.specs.declared.OnPlane.{OnPlane}
use Rattle.solver.specs.declared.OnPlane.TheVariants as onPlane
use Rattle.solver.specs.declared.along_line.Times.{Times}
use Rattle.solver.specs.declared.Failure.{Failure}
use Rattle.solver.specs.declared.Outcome.{Outcome}
use Rattle.solver.specs.declared.Outcome.TheVariants as outcome
use Rattle.solver.specs.declared.four_d.Relaxed.{Relaxed}
use Rattle.solver.specs.Plane.{signed_distance}
use Rattle.solver.specs.AlongLine.{along_line, at_clamped, best_on, point_on}
use Rattle.solver.specs.AlongPlane.{along_plane, on_circle, start_in_circle, start_on, from_line, by_line, by_constraint}
use Rattle.solver.specs.ThreeD.{three_d, start_in, by_plane, from_plane}
use Rattle.solver.specs.FourD.{turned_all, relaxed_to, relax_by, four_d}
use Rattle.solver.specs.Solve.{value_of, solve}
use Rattle.solver.specs.Claims.{SolveIsBinary32}
use Rattle.solver.proofs.InTurn.{either, kept-in-turn}

-- ---- what a program's answer holds

abbrev LineIs : OnLine → Type 0
LineIs (onLine.Value v) = IsBinary32 v
LineIs onLine.Infeasible = Unit {0}
LineIs onLine.BadClamp = Unit {0}

abbrev PlaneIs : OnPlane → Type 0
PlaneIs (onPlane.Value v) = IsBinary32 v
PlaneIs onPlane.Infeasible = Unit {0}
PlaneIs onPlane.BadClamp = Unit {0}

abbrev OutcomeIs : Outcome → Type 0
OutcomeIs (outcome.Feasible v) = IsBinary32 v
OutcomeIs (outcome.Infeasible f) = IsBinary32 f.value
OutcomeIs (outcome.BadClamp i) = Unit {0}

-- ---- on a line

point-is : (line : Line) (t : Float) → IsBinary32 (point_on line t)
unfolding point_on
point-is line t = sum_is _ _

clamped-is : (line : Line) (c : Option Float) → LineIs (at_clamped line c)
unfolding at_clamped
clamped-is line (Some t) = point-is line t
clamped-is line None = tt

best-is : (line : Line) (optimum : Optimum) (times : Option Times) → LineIs (best_on line optimum times)
unfolding best_on
best-is line optimum None = tt
best-is line (Direction x y z) (Some times) = point-is line _
best-is line (Point x y z) (Some times) = clamped-is line _

line-is : (line : Line) (radius : Float) (constraints : List Plane) (optimum : Optimum) → LineIs (along_line line radius constraints optimum)
unfolding along_line
line-is line radius constraints optimum =
    let line_dot = dot line.point line.direction in
    either LineIs (line_dot ⊗ line_dot ⊕ radius ⊗ radius ⊖ dot line.point line.point <ᶠ zero) tt (best-is line optimum _)

-- ---- on a plane

from-line-is : (a : OnLine) → LineIs a → PlaneIs (from_line a)
unfolding from_line
from-line-is (onLine.Value v) is = is
from-line-is onLine.Infeasible is = tt
from-line-is onLine.BadClamp is = tt

circle-is : (center : Vec3) (squared_radius : Float) (way : Vec3) (squared_length : Float) → IsBinary32 (on_circle center squared_radius way squared_length)
unfolding on_circle
circle-is center squared_radius way squared_length = sum_is _ _

start-on-is : (plane : Plane) (distance radius_squared : Float) (optimum : Optimum) → IsBinary32 (start_on plane distance radius_squared optimum)
unfolding start_on start_in_circle
start-on-is plane distance radius_squared (Direction x y z) =
    let direction : Vec3 = record { x = x; y = y; z = z } in
    let projected = direction -ᵥ plane.normal *ᵥ dot direction plane.normal in
    either IsBinary32 (dot projected projected ≤ᶠ rvo_epsilon) (product_is _ _) (circle-is _ _ _ _)
start-on-is plane distance radius_squared (Point x y z) =
    let point : Vec3 = record { x = x; y = y; z = z } in
    let projected = point -ᵥ plane.normal *ᵥ signed_distance plane point in
    either IsBinary32 (dot projected projected >ᶠ radius_squared) (circle-is _ _ _ _) (difference-is _ _)

by-constraint-is : (plane : Plane) (radius : Float) (optimum : Optimum) (passed : List Plane) (constraint : Plane) (a : OnPlane) → PlaneIs a → PlaneIs (by_constraint plane radius optimum passed constraint a)
unfolding by_constraint by_line
by-constraint-is plane radius optimum passed constraint (onPlane.Value best) is =
    let across = cross constraint.normal plane.normal in
    either PlaneIs (signed_distance constraint best ≥ᶠ zero) is
    (either PlaneIs (dot across across ≤ᶠ rvo_epsilon) tt (from-line-is _ (line-is _ radius passed optimum)))
by-constraint-is plane radius optimum passed constraint onPlane.Infeasible is = tt
by-constraint-is plane radius optimum passed constraint onPlane.BadClamp is = tt

plane-is : (plane : Plane) (radius : Float) (constraints : List Plane) (optimum : Optimum) → PlaneIs (along_plane plane radius constraints optimum)
unfolding along_plane
plane-is plane radius constraints optimum =
    let distance = dot plane.point plane.normal in
    either PlaneIs (distance ⊗ distance >ᶠ radius ⊗ radius) tt
    (kept-in-turn (by_constraint plane radius optimum) PlaneIs (by-constraint-is plane radius optimum) [] constraints (onPlane.Value _) (start-on-is plane distance (radius ⊗ radius) optimum))

-- ---- in the sphere

from-plane-is : (index : ℕ) (best : Vec3) (a : OnPlane) → IsBinary32 best → PlaneIs a → OutcomeIs (from_plane index best a)
unfolding from_plane
from-plane-is index best (onPlane.Value v) kept is = is
from-plane-is index best onPlane.Infeasible kept is = kept
from-plane-is index best onPlane.BadClamp kept is = tt

by-plane-is : (radius : Float) (optimum : Optimum) (passed : List Plane) (constraint : Plane) (o : Outcome) → OutcomeIs o → OutcomeIs (by_plane radius optimum passed constraint o)
unfolding by_plane
by-plane-is radius optimum passed constraint (outcome.Feasible best) is =
    either OutcomeIs (signed_distance constraint best >ᶠ zero) is (from-plane-is (length passed) best _ is (plane-is constraint radius passed optimum))
by-plane-is radius optimum passed constraint (outcome.Infeasible f) is = is
by-plane-is radius optimum passed constraint (outcome.BadClamp i) is = tt

three-d-is : (constraints : List Plane) (radius : Float) (optimum : Optimum) → IsBinary32 (start_in radius optimum) → OutcomeIs (three_d constraints radius optimum)
unfolding three_d
three-d-is constraints radius optimum is = kept-in-turn (by_plane radius optimum) OutcomeIs (by-plane-is radius optimum) [] constraints (outcome.Feasible (start_in radius optimum)) is

direction-is : (radius x y z : Float) → IsBinary32 (start_in radius (Direction x y z))
unfolding start_in
direction-is radius x y z = product_is _ radius

point-start-is : (radius : Float) (v : Vec3) → IsBinary32 v → IsBinary32 (start_in radius (Point v.x v.y v.z))
unfolding start_in
point-start-is radius v is = either IsBinary32 (length_squared v >ᶠ radius ⊗ radius) (product_is _ radius) is

-- ---- relaxed

relaxed-is : (constraint : Plane) (state : Relaxed) (o : Outcome) → IsBinary32 state.value → OutcomeIs o → IsBinary32 (relaxed_to constraint state o).value
unfolding relaxed_to
relaxed-is constraint state (outcome.Feasible v) state-is is = is
relaxed-is constraint state (outcome.Infeasible f) state-is is = state-is
relaxed-is constraint state (outcome.BadClamp i) state-is is = state-is

relax-is : (radius : Float) (passed : List Plane) (constraint : Plane) (state : Relaxed) → IsBinary32 state.value → IsBinary32 (relax_by radius passed constraint state).value
unfolding relax_by
relax-is radius passed constraint state is =
    either (λ (s : Relaxed). IsBinary32 s.value) (neg (signed_distance constraint state.value) ≤ᶠ state.penetration) is
    (relaxed-is constraint state _ is (three-d-is (turned_all constraint passed) radius _ (direction-is radius _ _ _)))

four-d-is : (constraints : List Plane) (radius : Float) (failure : Failure) → IsBinary32 failure.value → IsBinary32 (four_d constraints radius failure)
unfolding four_d
four-d-is constraints radius failure is =
    kept-in-turn (relax_by radius) (λ (s : Relaxed). IsBinary32 s.value) (relax-is radius) (take failure.index constraints) (drop failure.index constraints) _ is

-- ---- the solver

value-is : (planes : List Plane) (radius : Float) (o : Outcome) → OutcomeIs o → IsBinary32 (value_of planes radius o)
unfolding value_of
value-is planes radius (outcome.Feasible v) is = is
value-is planes radius (outcome.Infeasible f) is = four-d-is planes radius f is
value-is planes radius (outcome.BadClamp i) is = zero_is

pub solve-is-binary32 : SolveIsBinary32
unfolding solve
solve-is-binary32 planes radius preferred is = value-is planes radius _ (three-d-is planes radius _ (point-start-is radius preferred is))
