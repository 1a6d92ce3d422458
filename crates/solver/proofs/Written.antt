-- A plane written to a lent list: its six numbers in a row.
use mathlib.Core.Path.{◌≡◌, refl, sym, ap, ◌∙◌}
use mathlib.Core.Bool.{Bool, true, false}
use mathlib.Core.List.{List, ◌++◌, append_assoc}
use Prim.Native.Nat.{ℕ, suc, ◌+◌, ◌*◌, ◌/◌, ◌≤◌, ◌<◌}
use native.Mathlib.Numerals.{add-one}
use native.Mathlib.Omega.{arith}
use borrow.Author.Tests.{ltb-true, lt-ltb, le-ltb}
use lib.Dec.{ltb}
use lib.ListN.{length, take, drop, set, length-set}
use lib.Seq.{take-set-le, drop_at, length-take-le, sets, sets-eq}
use lib.Ieee.{Float}
use Rattle.solver.specs.declared.Plane.{Plane}
use Rattle.solver.specs.Lent.{plane_at, numbers_of_plane, with_plane}

-- stored number by number
unfoldable pub written : List Float → ℕ → Plane → List Float
written xs at plane =
    set (set (set (set (set (set xs at plane.point.x) (at + 1) plane.point.y) (at + 2) plane.point.z) (at + 3) plane.normal.x) (at + 4) plane.normal.y) (at + 5) plane.normal.z

pub written-length : (xs : List Float) (at : ℕ) (p : Plane) → length (written xs at p) ≡ length xs
unfolding written
written-length xs at p = simp length-set

pub written-before : (n : ℕ) (xs : List Float) (at : ℕ) (p : Plane) → n ≤ at → take n (written xs at p) ≡ take n xs
unfolding written
written-before n xs at p h =
    let h1 : n ≤ at + 1 = omega arith in
    let h2 : n ≤ at + 2 = omega arith in
    let h3 : n ≤ at + 3 = omega arith in
    let h4 : n ≤ at + 4 = omega arith in
    let h5 : n ≤ at + 5 = omega arith in
    simp take-set-le

-- six stores in a row
written_is : (xs : List Float) (at : ℕ) (p : Plane) → written xs at p ≡ sets xs at (numbers_of_plane p)
unfolding written numbers_of_plane
written_is xs at p =
    let e2 : at + 2 ≡ suc (suc at) = omega arith in
    let e3 : at + 3 ≡ suc (suc (suc at)) = omega arith in
    let e4 : at + 4 ≡ suc (suc (suc (suc at))) = omega arith in
    let e5 : at + 5 ≡ suc (suc (suc (suc (suc at)))) = omega arith in
    rw (add-one at, e2, e3, e4, e5)

-- what stood before, the plane's numbers, and what stood after
pub written-split : (xs : List Float) (at : ℕ) (p : Plane) → at + 6 ≤ length xs → written xs at p ≡ take at xs ++ (numbers_of_plane p ++ drop (at + 6) xs)
unfolding numbers_of_plane
written-split xs at p h = written_is xs at p ∙ sets-eq (numbers_of_plane p) xs at h ∙ append_assoc (take at xs) (numbers_of_plane p) (drop (at + 6) xs)

pub written_read : (xs : List Float) (at : ℕ) (p : Plane) → at + 6 ≤ length xs → plane_at (drop at (written xs at p)) ≡ p
unfolding plane_at numbers_of_plane
written_read xs at p h =
    ap (λ (ys : List Float). plane_at (drop at ys)) (written-split xs at p h)
    ∙ ap plane_at (drop_at (take at xs) (numbers_of_plane p ++ drop (at + 6) xs) at (length-take-le at xs (omega arith)))

-- where there is room, that is what is written
pub with-room : (xs : List Float) (index : ℕ) (p : Plane) → index < length xs / 6 → with_plane xs index p ≡ written xs (6 * index) p
unfolding with_plane
with-room xs index p h = rw (lt-ltb index (length xs / 6) h) (sym (written-split xs (6 * index) p (omega arith)))

pub without_room : (xs : List Float) (index : ℕ) (p : Plane) → length xs / 6 ≤ index → with_plane xs index p ≡ xs
unfolding with_plane
without_room xs index p h = rw (le-ltb index (length xs / 6) h)

-- room or none, the list stays as long as it was
pub with-length : (xs : List Float) (index : ℕ) (p : Plane) → length (with_plane xs index p) ≡ length xs
unfolding with_plane
with-length xs index p = go (ltb index (length xs / 6)) refl
  where
    go : (b : Bool) → ltb index (length xs / 6) ≡ b → length (with_plane xs index p) ≡ length xs
    go true room = ap length (with-room xs index p (ltb-true index (length xs / 6) room)) ∙ written-length xs (6 * index) p
    go false none = rw none

-- what six stores leave, and none
pub ruleset stores = (with-room, without_room)
