-- Planes lent as numbers, six to each: point, then normal.
use Rattle.std.specs.Prelude.{ℕ, zero, suc, ◌+◌, ◌*◌, ◌/◌, cond, List, [], ◌∷◌, ◌++◌, ltb, length, get_or, take, drop, Float}
use Rattle.std.specs.Float.{nan}
use Rattle.solver.specs.declared.Plane.{Plane}

-- how many numbers a plane takes
abbrev pub per_plane : ℕ
per_plane = 6

-- how many numbers of scratch the programs take for each plane: the plane's own, and those of the plane turned
abbrev pub scratch_per_plane : ℕ
scratch_per_plane = 12

-- and for so many planes
abbrev pub scratch_for : ℕ → ℕ
scratch_for n = scratch_per_plane * n

-- the plane in the first six numbers of a list
unfoldable pub plane_at : List Float → Plane
plane_at xs = record {
  point = record { x = get_or xs 0 nan; y = get_or xs 1 nan; z = get_or xs 2 nan };
  normal = record { x = get_or xs 3 nan; y = get_or xs 4 nan; z = get_or xs 5 nan };
}

-- its six numbers
unfoldable pub numbers_of_plane : Plane → List Float
numbers_of_plane p = p.point.x ∷ p.point.y ∷ p.point.z ∷ p.normal.x ∷ p.normal.y ∷ p.normal.z ∷ []

-- those of several planes, one after another
unfoldable pub numbers_of_planes : List Plane → List Float
numbers_of_planes [] = []
numbers_of_planes (p ∷ ps) = numbers_of_plane p ++ numbers_of_planes ps

-- a list of numbers with a plane written at an index: as it was, where it has no room for one there
unfoldable pub with_plane : List Float → ℕ → Plane → List Float
with_plane xs index plane =
    cond (ltb index (length xs / per_plane)) (take (per_plane * index) xs ++ (numbers_of_plane plane ++ drop (per_plane * index + per_plane) xs)) xs

-- the first n planes of a list of numbers
unfoldable pub planes_of : ℕ → List Float → List Plane
planes_of zero xs = []
planes_of (suc n) xs = plane_at xs ∷ planes_of n (drop per_plane xs)

-- every whole plane of it
abbrev pub planes_in : List Float → List Plane
planes_in xs = planes_of (length xs / per_plane) xs
