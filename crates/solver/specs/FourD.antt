-- `solve_linear_program_4d`.
use Rattle.std.specs.Prelude.{◌*◌, ◌/◌, cond, List, [], ◌∷◌, ◌++◌, Option, Some, None, length, take, drop, replicate, Float}
use Rattle.std.specs.Float.Ieee.{neg}
use Rattle.vectors.specs.declared.Vec3.{Vec3}
use Rattle.vectors.specs.Number.{◌⊘◌, ◌≤ᶠ◌, ◌>ᶠ◌, zero, of_word, rvo_epsilon}
use Rattle.vectors.specs.Vec3.{◌+ᵥ◌, ◌-ᵥ◌, ◌*ᵥ◌, dot, cross, normalize}
use Rattle.solver.specs.declared.Plane.{Plane}
use Rattle.solver.specs.declared.Optimum.TheVariants.{Direction}
use Rattle.solver.specs.declared.Failure.{Failure}
use Rattle.solver.specs.declared.Outcome.{Outcome}
use Rattle.solver.specs.declared.Outcome.TheVariants.{Feasible, Infeasible, BadClamp}
use Rattle.solver.specs.declared.four_d.Relaxed.{Relaxed}
use Rattle.solver.specs.Plane.{signed_distance, in_turn}
use Rattle.solver.specs.Lent.{per_plane, scratch_per_plane, scratch_for}
use Rattle.solver.specs.ThreeD.{three_d}

abbrev pub half : Float
half = of_word 0x3F00_0000

unfoldable pub turned_plane : Plane → Plane → Vec3 → Plane
turned_plane constraint previous point = record { point = point; normal = normalize (previous.normal -ᵥ constraint.normal) }

-- the half-space in which `previous` is violated no more than `constraint`: of two parallel planes that face the same way there is none
unfoldable pub turn_by : Plane → Plane → Option Plane
turn_by constraint previous =
    let across = cross previous.normal constraint.normal in
    let line_normal = cross across constraint.normal in
    cond (dot across across ≤ᶠ rvo_epsilon)
    (cond (dot constraint.normal previous.normal >ᶠ zero) None (Some (turned_plane constraint previous ((constraint.point +ᵥ previous.point) *ᵥ half))))
    (Some (turned_plane constraint previous (constraint.point -ᵥ line_normal *ᵥ (signed_distance previous constraint.point ⊘ dot line_normal previous.normal))))

unfoldable pub kept : Option Plane → List Plane → List Plane
kept (Some plane) planes = plane ∷ planes
kept None planes = planes

-- all earlier planes, turned
unfoldable pub turned_all : Plane → List Plane → List Plane
turned_all constraint [] = []
turned_all constraint (previous ∷ more) = kept (turn_by constraint previous) (turned_all constraint more)

-- an infeasible inner program keeps value and penetration; and so would a bad clamp, of which there is none with a direction as the optimum
-- (`ThreeDNeverBad` in Claims.antt)
unfoldable pub relaxed_to : Plane → Relaxed → Outcome → Relaxed
relaxed_to constraint state (Feasible value) = record { value = value; penetration = neg (signed_distance constraint value) }
relaxed_to constraint state (Infeasible failure) = state
relaxed_to constraint state (BadClamp index) = state

unfoldable pub relax_by : Float → List Plane → Plane → Relaxed → Relaxed
relax_by radius passed constraint state =
    cond (neg (signed_distance constraint state.value) ≤ᶠ state.penetration) state
    (relaxed_to constraint state (three_d (turned_all constraint passed) radius (Direction constraint.normal.x constraint.normal.y constraint.normal.z)))

-- from the failed plane on
unfoldable pub four_d : List Plane → Float → Failure → Vec3
four_d constraints radius failure =
    (in_turn (relax_by radius) (take failure.index constraints) (drop failure.index constraints) (record { value = failure.value; penetration = zero })).value

-- What it leaves of its scratch, of which the planes take the first half: those, and +0 for each number of the second. A rest of fewer than scratch_per_plane numbers is not touched.
unfoldable pub half_cleared : List Float → List Float
half_cleared xs = let n = length xs / scratch_per_plane in take (per_plane * n) xs ++ replicate (per_plane * n) zero ++ drop (scratch_for n) xs
