-- `solve_linear_program`: the second part of the velocity call's definition, on a list of planes wherever they come from.
use Rattle.std.specs.Prelude.{List, Float}
use Rattle.vectors.specs.declared.Vec3.{Vec3}
use Rattle.vectors.specs.Vec3.{zero_vec}
use Rattle.solver.specs.declared.Plane.{Plane}
use Rattle.solver.specs.declared.Optimum.TheVariants.{Point}
use Rattle.solver.specs.declared.Outcome.{Outcome}
use Rattle.solver.specs.declared.Outcome.TheVariants.{Feasible, Infeasible, BadClamp}
use Rattle.solver.specs.declared.Solution.{Solution}
use Rattle.solver.specs.ThreeD.{three_d}
use Rattle.solver.specs.FourD.{four_d}

-- the 3D program's value, or 4D's where it is infeasible; a bad clamp has none
unfoldable pub value_of : List Plane → Float → Outcome → Vec3
value_of planes radius (Feasible value) = value
value_of planes radius (Infeasible failure) = four_d planes radius failure
value_of planes radius (BadClamp index) = zero_vec

unfoldable pub solve : List Plane → Float → Vec3 → Solution
solve planes radius preferred =
    let outcome = three_d planes radius (Point preferred.x preferred.y preferred.z) in
    record { outcome = outcome; value = value_of planes radius outcome }
