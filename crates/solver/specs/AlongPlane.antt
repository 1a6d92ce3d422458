-- `solve_linear_program_along_plane`.
use Rattle.std.specs.Prelude.{cond, List, [], Float}
use Rattle.vectors.specs.declared.Vec3.{Vec3}
use Rattle.vectors.specs.Number.{◌⊖◌, ◌⊗◌, ◌⊘◌, ◌≤ᶠ◌, ◌>ᶠ◌, ◌≥ᶠ◌, zero, rvo_epsilon}
use Rattle.vectors.specs.Root.{root}
use Rattle.vectors.specs.Vec3.{◌+ᵥ◌, ◌-ᵥ◌, ◌*ᵥ◌, dot, cross, normalize}
use Rattle.solver.specs.declared.Plane.{Plane}
use Rattle.solver.specs.declared.Line.{Line}
use Rattle.solver.specs.declared.Optimum.{Optimum}
use Rattle.solver.specs.declared.Optimum.TheVariants.{Point, Direction}
use Rattle.solver.specs.declared.OnLine.{OnLine}
use Rattle.solver.specs.declared.OnLine.TheVariants as onLine
use Rattle.solver.specs.declared.OnPlane.{OnPlane}
use Rattle.solver.specs.declared.OnPlane.TheVariants.{Value, Infeasible, BadClamp}
use Rattle.solver.specs.Plane.{signed_distance, in_turn}
use Rattle.solver.specs.AlongLine.{along_line}

-- `center + (squared_radius / squared_length).sqrt() * way`
unfoldable pub on_circle : Vec3 → Float → Vec3 → Float → Vec3
on_circle center squared_radius way squared_length = center +ᵥ way *ᵥ root (squared_radius ⊘ squared_length)

-- the best value in the circle in which the plane and the sphere meet: on it in a direction, or at its center where the direction goes straight off the plane; a point projected on the plane, and moved back to the circle from outside the sphere
unfoldable pub start_in_circle : Plane → Float → Vec3 → Float → Optimum → Vec3
start_in_circle plane radius_squared center squared_radius (Direction x y z) =
    let direction : Vec3 = record { x = x; y = y; z = z } in
    let projected = direction -ᵥ plane.normal *ᵥ dot direction plane.normal in
    let squared_length = dot projected projected in
    cond (squared_length ≤ᶠ rvo_epsilon) center (on_circle center squared_radius projected squared_length)
start_in_circle plane radius_squared center squared_radius (Point x y z) =
    let point : Vec3 = record { x = x; y = y; z = z } in
    let projected = point -ᵥ plane.normal *ᵥ signed_distance plane point in
    let relative = projected -ᵥ center in
    cond (dot projected projected >ᶠ radius_squared) (on_circle center squared_radius relative (dot relative relative)) projected

-- The best value on the plane within the sphere. `distance` is the plane's from the origin.
unfoldable pub start_on : Plane → Float → Float → Optimum → Vec3
start_on plane distance radius_squared optimum =
    let squared_radius = radius_squared ⊖ distance ⊗ distance in
    let center = plane.normal *ᵥ distance in
    start_in_circle plane radius_squared center squared_radius optimum

-- the line in which the plane and the constraint meet; `across` is the cross product of their normals
unfoldable pub line_on : Plane → Plane → Vec3 → Line
line_on plane constraint across =
    let direction = normalize across in
    let line_normal = cross direction plane.normal in
    record {
      point = plane.point -ᵥ line_normal *ᵥ (signed_distance constraint plane.point ⊘ dot line_normal constraint.normal);
      direction = direction;
    }

-- a line's answer as the plane's
unfoldable pub from_line : OnLine → OnPlane
from_line (onLine.Value value) = Value value
from_line onLine.Infeasible = Infeasible
from_line onLine.BadClamp = BadClamp

-- the present value violates the constraint: nothing is left where the two are parallel, else the best on their line, under the constraints passed
unfoldable pub by_line : Plane → Float → Optimum → List Plane → Plane → OnPlane
by_line plane radius optimum passed constraint =
    let across = cross constraint.normal plane.normal in
    cond (dot across across ≤ᶠ rvo_epsilon) Infeasible (from_line (along_line (line_on plane constraint across) radius passed optimum))

unfoldable pub by_constraint : Plane → Float → Optimum → List Plane → Plane → OnPlane → OnPlane
by_constraint plane radius optimum passed constraint (Value best) =
    cond (signed_distance constraint best ≥ᶠ zero) (Value best) (by_line plane radius optimum passed constraint)
by_constraint plane radius optimum passed constraint Infeasible = Infeasible
by_constraint plane radius optimum passed constraint BadClamp = BadClamp

unfoldable pub along_plane : Plane → Float → List Plane → Optimum → OnPlane
along_plane plane radius constraints optimum =
    let distance = dot plane.point plane.normal in
    let radius_squared = radius ⊗ radius in
    cond (distance ⊗ distance >ᶠ radius_squared) Infeasible (in_turn (by_constraint plane radius optimum) [] constraints (Value (start_on plane distance radius_squared optimum)))
