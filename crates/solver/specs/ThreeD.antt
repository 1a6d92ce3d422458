-- `solve_linear_program_3d`.
use Rattle.std.specs.Prelude.{ℕ, cond, List, [], length, Float}
use Rattle.vectors.specs.declared.Vec3.{Vec3}
use Rattle.vectors.specs.Number.{◌⊗◌, ◌>ᶠ◌, zero}
use Rattle.vectors.specs.Vec3.{◌*ᵥ◌, length_squared, normalize}
use Rattle.solver.specs.declared.Plane.{Plane}
use Rattle.solver.specs.declared.Optimum.{Optimum}
use Rattle.solver.specs.declared.Optimum.TheVariants.{Point, Direction}
use Rattle.solver.specs.declared.OnPlane.{OnPlane}
use Rattle.solver.specs.declared.OnPlane.TheVariants as onPlane
use Rattle.solver.specs.declared.Outcome.{Outcome}
use Rattle.solver.specs.declared.Outcome.TheVariants.{Feasible, Infeasible, BadClamp}
use Rattle.solver.specs.Plane.{signed_distance, in_turn}
use Rattle.solver.specs.AlongPlane.{along_plane}

-- the best value within the sphere: on it in a direction, and a point outside it moved back to it
unfoldable pub start_in : Float → Optimum → Vec3
start_in radius (Direction x y z) = record { x = x; y = y; z = z } *ᵥ radius
start_in radius (Point x y z) =
    let point : Vec3 = record { x = x; y = y; z = z } in
    cond (length_squared point >ᶠ radius ⊗ radius) (normalize point *ᵥ radius) point

-- what solving on the plane at `index` makes of the value that the planes before it left
unfoldable pub from_plane : ℕ → Vec3 → OnPlane → Outcome
from_plane index best (onPlane.Value value) = Feasible value
from_plane index best onPlane.Infeasible = Infeasible (record { index = index; value = best })
from_plane index best onPlane.BadClamp = BadClamp index

unfoldable pub by_plane : Float → Optimum → List Plane → Plane → Outcome → Outcome
by_plane radius optimum passed constraint (Feasible best) =
    cond (signed_distance constraint best >ᶠ zero) (Feasible best) (from_plane (length passed) best (along_plane constraint radius passed optimum))
by_plane radius optimum passed constraint (Infeasible failure) = Infeasible failure
by_plane radius optimum passed constraint (BadClamp index) = BadClamp index

unfoldable pub three_d : List Plane → Float → Optimum → Outcome
three_d constraints radius optimum = in_turn (by_plane radius optimum) [] constraints (Feasible (start_in radius optimum))
