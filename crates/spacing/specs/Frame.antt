-- A frame: three numbers to an agent. Its positions in whole millimetres, and its pairs with their squared distances.
use Rattle.std.specs.Prelude.{ℕ, suc, ◌+◌, ◌*◌, Bool, true, ◌||◌, List, [], ◌∷◌, ◌++◌, map, ℤ, Float}
use Rattle.std.specs.Float.{nan, inf, fin}
use Rattle.vectors.specs.Number.{of_word, ◌<ᶠ◌}
use Rattle.spacing.specs.declared.Sighting.{Sighting}
use Rattle.spacing.specs.Millimetres.{apart, millimetres}

-- 16384 and -16384
abbrev pub farthest : Float
farthest = of_word 0x4680_0000

abbrev pub minus_farthest : Float
minus_farthest = of_word 0xC680_0000

-- not finite, or beyond 16384 either way
unfoldable pub out_of_reach : Float → Bool
out_of_reach nan = true
out_of_reach (inf s) = true
out_of_reach (fin s m e) = farthest <ᶠ fin s m e || fin s m e <ᶠ minus_farthest

-- a position in whole millimetres
pub record Position : Type 0 where
  pub x : ℤ
  pub y : ℤ
  pub z : ℤ

unfoldable pub positions : List Float → List Position
positions [] = []
positions (x ∷ []) = []
positions (x ∷ y ∷ []) = []
positions (x ∷ y ∷ z ∷ rest) = record { x = millimetres x; y = millimetres y; z = millimetres z } ∷ positions rest

abbrev pub square : ℕ → ℕ
square n = n * n

-- A position within reach is at most 16,384,000 from 0 along each axis, so two are less than 2 ^ 25 apart along each: the square of the distance is below 2 ^ 52.
unfoldable pub squared : Position → Position → ℕ
squared p q = square (apart p.x q.x) + square (apart p.y q.y) + square (apart p.z q.z)

-- squared distances as sightings of the first agent with those from the second on
unfoldable pub sighted : ℕ → ℕ → ℕ → List ℕ → List Sighting
sighted frame first second [] = []
sighted frame first second (d ∷ ds) =
    record { squared = d; frame = frame; first = first; second = second } ∷ sighted frame first (suc second) ds

-- the pairs of a frame, by the first agent and then the second; the agent at the head of the list has the number `first`
unfoldable pub pairs : ℕ → ℕ → List Position → List Sighting
pairs frame first [] = []
pairs frame first (p ∷ ps) = sighted frame first (suc first) (map (squared p) ps) ++ pairs frame (suc first) ps
