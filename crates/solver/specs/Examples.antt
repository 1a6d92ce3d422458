-- Lists of planes that fail at their last one, with what the 3D program makes of them: docs/WHY.md tells them. `FailingExamples` in Claims.antt says that they hold.
use Rattle.std.specs.Prelude.{◌≡◌, List, [], ◌∷◌, ◌++◌, length, Float}
use Rattle.vectors.specs.declared.Vec3.{Vec3}
use Rattle.vectors.specs.Number.{of_word, zero, one}
use Rattle.solver.specs.declared.Plane.{Plane}
use Rattle.solver.specs.declared.Optimum.{Optimum}
use Rattle.solver.specs.declared.Optimum.TheVariants.{Point}
use Rattle.solver.specs.declared.OnPlane.TheVariants as onPlane
use Rattle.solver.specs.declared.Outcome.TheVariants.{Feasible, Infeasible}
use Rattle.solver.specs.Plane.{signed_distance}
use Rattle.solver.specs.AlongPlane.{along_plane}
use Rattle.solver.specs.ThreeD.{three_d}

-- ---- what an example says

-- the value nearest to 0 within a radius is looked for
pub data Example : Type 0 where
  -- planes, the radius, and the value with which they are feasible
  feasible : List Plane → Float → Vec3 → Example
  -- planes, and one after them that fails; the radius; the value that the first ones leave, and its signed distance to the last one
  fails : List Plane → Plane → Float → Vec3 → Float → Example

abbrev pub nearest : Optimum
nearest = Point zero zero zero

abbrev pub Holds : Example → Type 0
Holds (feasible planes radius value) = three_d planes radius nearest ≡ Feasible value
Holds (fails before plane radius value distance) =
    (three_d (before ++ plane ∷ []) radius nearest ≡ Infeasible (record { index = length before; value = value }))
    × (three_d before radius nearest ≡ Feasible value)
    × (signed_distance plane value ≡ distance)
    × (along_plane plane radius before nearest ≡ onPlane.Infeasible)

abbrev pub All : List Example → Type 0
All [] = Unit {0}
All (e ∷ es) = Holds e × All es

-- ---- numbers

abbrev pub minus_one : Float
minus_one = of_word 0xBF80_0000

abbrev pub one_and_half : Float
one_and_half = of_word 0x3FC0_0000

abbrev pub minus_one_and_half : Float
minus_one_and_half = of_word 0xBFC0_0000

abbrev pub two : Float
two = of_word 0x4000_0000

abbrev pub minus_two : Float
minus_two = of_word 0xC000_0000

abbrev pub eight : Float
eight = of_word 0x4100_0000

abbrev pub ten : Float
ten = of_word 0x4120_0000

abbrev pub vec : Float → Float → Float → Vec3
vec x y z = record { x = x; y = y; z = z }

-- ---- planes

-- the values with x at least 1, and those with y at least 1, with z at least 1.5, with x at most -1
abbrev pub east : Plane
east = record { point = vec one zero zero; normal = vec one zero zero }

abbrev pub north : Plane
north = record { point = vec zero one zero; normal = vec zero one zero }

abbrev pub up : Plane
up = record { point = vec zero zero one_and_half; normal = vec zero zero one }

abbrev pub west : Plane
west = record { point = vec minus_one zero zero; normal = vec minus_one zero zero }

-- z at least 2
abbrev pub higher : Plane
higher = record { point = vec zero zero two; normal = vec zero zero one }

-- x at least 8, and a plane whose normal is zero, as that of a neighbour who is unseen
abbrev pub far : Plane
far = record { point = vec eight zero zero; normal = vec one zero zero }

abbrev pub normalless : Plane
normalless = record { point = vec ten zero zero; normal = vec zero zero zero }

-- ---- the examples

abbrev pub examples : List Example
examples =
    -- document 01's two opposed planes
    fails (east ∷ []) west two (vec one zero zero) minus_two
    -- any two of three can be met within the radius, and not all three
    ∷ fails (east ∷ north ∷ []) up two (vec one one zero) minus_one_and_half
    ∷ feasible (east ∷ up ∷ []) two (vec one zero one_and_half)
    ∷ feasible (north ∷ up ∷ []) two (vec zero one one_and_half)
    -- the plane of document 01's coincident agents: past the radius, so that no plane has to come before it
    ∷ fails [] higher one (vec zero zero zero) minus_two
    -- 0 is not above 0: the plane without a normal is solved on, and fails by the one before it
    ∷ fails (far ∷ []) normalless ten (vec eight zero zero) zero
    ∷ []
