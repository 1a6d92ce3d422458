-- Planes written as numbers are read back as the planes that they are, and what clearing the second half of scratch leaves of them.
use mathlib.Core.Path.{◌≡◌, refl, sym, ap, ◌∙◌}
use mathlib.Core.List.{List, [], ◌∷◌, ◌++◌, append_assoc, append-nil}
use Prim.Native.Nat.{ℕ, ◌+◌, ◌*◌, ◌/◌, ◌≤◌}
use native.Mathlib.Omega.{arith}
use lib.Ieee.{Float}
use lib.ListN.{length, take, drop, replicate, length-append, length-drop}
use lib.Seq.{drop-drop, take_at, drop_at}
use Rattle.vectors.specs.Number.{zero}
use Rattle.solver.specs.declared.Plane.{Plane}
use Rattle.solver.specs.Lent.{plane_at, planes_of, numbers_of_plane, numbers_of_planes, with_plane}
use Rattle.solver.specs.FourD.{half_cleared}
use Rattle.solver.proofs.Written.{with-room, written-split}

pub flat-length : (ps : List Plane) → length (numbers_of_planes ps) ≡ 6 * length ps
unfolding numbers_of_plane numbers_of_planes
flat-length [] = refl
flat-length (p ∷ ps) = let rec = flat-length ps in omega arith

pub flat-none : numbers_of_planes [] ≡ []
unfolding numbers_of_planes
flat-none = refl

flat_append : (ps qs : List Plane) → numbers_of_planes (ps ++ qs) ≡ numbers_of_planes ps ++ numbers_of_planes qs
unfolding numbers_of_planes
flat_append [] qs = refl
flat_append (p ∷ ps) qs = ap (λ (xs : List Float). numbers_of_plane p ++ xs) (flat_append ps qs) ∙ sym (append_assoc (numbers_of_plane p) (numbers_of_planes ps) (numbers_of_planes qs))

flat-one : (p : Plane) → numbers_of_plane p ≡ numbers_of_planes (p ∷ [])
unfolding numbers_of_planes
flat-one p = sym (append-nil (numbers_of_plane p))

-- what is read back
pub flat-read : (ps : List Plane) (zs : List Float) → planes_of (length ps) (numbers_of_planes ps ++ zs) ≡ ps
unfolding planes_of plane_at numbers_of_plane numbers_of_planes
flat-read [] zs = refl
flat-read (p ∷ ps) zs = ap (λ (qs : List Plane). p ∷ qs) (flat-read ps zs)

-- one plane more, written after those that stand
pub written_next : (ps : List Plane) (k : ℕ) (xs : List Float) (p : Plane) → length ps ≡ k → 6 * k + 6 ≤ length xs
    → with_plane (numbers_of_planes ps ++ drop (6 * k) xs) k p ≡ numbers_of_planes (ps ++ p ∷ []) ++ drop (6 * (k + 1)) xs
written_next ps k xs p is h =
    let flat : length (numbers_of_planes ps) ≡ 6 * k = flat-length ps ∙ ap (λ (m : ℕ). 6 * m) is in
    let ys = numbers_of_planes ps ++ drop (6 * k) xs in
    let room : 6 * k + 6 ≤ length ys = omega (arith, length-append (numbers_of_planes ps) (drop (6 * k) xs), length-drop (6 * k) xs) in
    let next : 6 * k + 6 ≡ 6 * (k + 1) = omega arith in
    let past : drop (6 * k + 6) ys ≡ drop (6 * (k + 1)) xs =
    sym (drop-drop 6 (6 * k) ys) ∙ ap (drop 6) (drop_at (numbers_of_planes ps) (drop (6 * k) xs) (6 * k) flat) ∙ drop-drop 6 (6 * k) xs ∙ ap (λ (m : ℕ). drop m xs) next in
    with-room ys k p (omega arith)
    ∙ written-split ys (6 * k) p room
    ∙ ap (λ (zs : List Float). zs ++ (numbers_of_plane p ++ drop (6 * k + 6) ys)) (take_at (numbers_of_planes ps) (drop (6 * k) xs) (6 * k) flat)
    ∙ ap (λ (zs : List Float). numbers_of_planes ps ++ (numbers_of_plane p ++ zs)) past
    ∙ sym (append_assoc (numbers_of_planes ps) (numbers_of_plane p) (drop (6 * (k + 1)) xs))
    ∙ ap (λ (zs : List Float). numbers_of_planes ps ++ zs ++ drop (6 * (k + 1)) xs) (flat-one p)
    ∙ ap (λ (zs : List Float). zs ++ drop (6 * (k + 1)) xs) (sym (flat_append ps (p ∷ [])))

-- where the planes stand in the first half, they stand in front of the cleared one
pub half-cleared : (n : ℕ) (ps : List Plane) (rest xs : List Float) → length xs / 12 ≡ n → length ps ≡ n → xs ≡ numbers_of_planes ps ++ rest → half_cleared xs ≡ numbers_of_planes ps ++ replicate (6 * n) zero ++ drop (12 * n) xs
unfolding half_cleared
half-cleared n ps rest xs count-is many stands =
    let flat : length (numbers_of_planes ps) ≡ 6 * n = flat-length ps ∙ ap (λ (m : ℕ). 6 * m) many in
    ap (λ (k : ℕ). take (6 * k) xs ++ replicate (6 * k) zero ++ drop (12 * k) xs) count-is
    ∙ ap (λ (zs : List Float). take (6 * n) zs ++ replicate (6 * n) zero ++ drop (12 * n) xs) stands
    ∙ ap (λ (zs : List Float). zs ++ replicate (6 * n) zero ++ drop (12 * n) xs) (take_at (numbers_of_planes ps) rest (6 * n) flat)
