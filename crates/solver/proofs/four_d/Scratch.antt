-- The second half of the 4D program's scratch: the planes turned stand there one after another, and it is cleared at the end.
use mathlib.Core.Path.{◌≡◌, refl, sym, ap, ◌∙◌}
use mathlib.Core.List.{List, [], ◌∷◌, ◌++◌, append_assoc}
use Prim.Native.Nat.{ℕ, ◌+◌, ◌*◌, ◌/◌, ◌≤◌, ◌<◌}
use native.Mathlib.Nat.{le_refl}
use native.Mathlib.Omega.{arith}
use lib.ListN.{length, take, drop, replicate, length-append, length-replicate, length-drop}
use lib.Seq.{drop-drop, length-take-le}
use lib.Ieee.{Float}
use Rattle.std.specs.Prelude.{Option, Some, None}
use Rattle.vectors.specs.Number.{zero as zero32}
use Rattle.solver.specs.declared.Plane.{Plane}
use Rattle.solver.specs.Lent.{plane_at, planes_of, with_plane}
use Rattle.solver.specs.FourD.{kept, turn_by, turned_all, half_cleared}
use Rattle.solver.proofs.Planes.{rest, rest_all, rest-step, rest-none, passed-step, planes-take, planes-lent}
use Rattle.solver.proofs.Written.{written, written-before, written_read, with-room}

-- ---- one plane more after those that are there

pub appended : (n : ℕ) (xs : List Float) (p : Plane) → n < length xs / 6 → planes_of (n + 1) (with_plane xs n p) ≡ planes_of n xs ++ p ∷ []
appended n xs p room =
    let ys = written xs (6 * n) p in
    let front : planes_of n ys ≡ planes_of n xs =
    sym (planes-take n (6 * n) ys (le_refl (6 * n))) ∙ ap (planes_of n) (written-before (6 * n) xs (6 * n) p (le_refl (6 * n))) ∙ planes-take n (6 * n) xs (le_refl (6 * n)) in
    ap (planes_of (n + 1)) (with-room xs n p room)
    ∙ passed-step n ys
    ∙ ap (λ (ps : List Plane). ps ++ plane_at (drop (6 * n) ys) ∷ []) front
    ∙ ap (λ (q : Plane). planes_of n xs ++ q ∷ []) (written_read xs (6 * n) p (omega arith))

-- ---- a loop that turns planes

kept-first : (t : Option Plane) (ps : List Plane) → kept t [] ++ ps ≡ kept t ps
unfolding kept
kept-first (Some p) ps = refl
kept-first None ps = refl

pub turned_next : (constraint : Plane) (n i : ℕ) (xs : List Float) → i < n
    → turned_all constraint (rest n i xs) ≡ kept (turn_by constraint (plane_at (drop (6 * i) xs))) [] ++ turned_all constraint (rest n (i + 1) xs)
unfolding turned_all
turned_next constraint n i xs below = rw (rest-step n i xs below) (sym (kept-first (turn_by constraint (plane_at (drop (6 * i) xs))) (turned_all constraint (rest n (i + 1) xs))))

pub turned_none : (constraint : Plane) (n i : ℕ) (xs : List Float) → n ≤ i → turned_all constraint (rest n i xs) ≡ []
unfolding turned_all
turned_none constraint n i xs past = rw (rest-none n i xs past)

pub ruleset turned = (appended, rest_all, turned_next, turned_none)

-- ---- the second half cleared

pub second_cleared : (n : ℕ) (xs : List Float) → 12 * n ≤ length xs
    → take (6 * n) xs ++ (replicate (length (take (6 * n) (drop (6 * n) xs))) zero32 ++ drop (6 * n) (drop (6 * n) xs)) ≡ take (6 * n) xs ++ replicate (6 * n) zero32 ++ drop (12 * n) xs
second_cleared n xs room =
    let lent : length (take (6 * n) (drop (6 * n) xs)) ≡ 6 * n = length-take-le (6 * n) (drop (6 * n) xs) (simp length-drop (omega arith)) in
    let whole : 6 * n + 6 * n ≡ 12 * n = omega arith in
    rw (lent, drop-drop (6 * n) (6 * n) xs, whole) (sym (append_assoc (take (6 * n) xs) (replicate (6 * n) zero32) (drop (12 * n) xs)))

pub cleared-length : (xs : List Float) → length (half_cleared xs) ≡ length xs
unfolding half_cleared
cleared-length xs =
    let n = length xs / 12 in
    let front : length (take (6 * n) xs) ≡ 6 * n = length-take-le (6 * n) xs (omega arith) in
    length-append (take (6 * n) xs ++ replicate (6 * n) zero32) (drop (12 * n) xs)
    ∙ omega (arith, length-append (take (6 * n) xs) (replicate (6 * n) zero32), length-replicate (6 * n) zero32, length-drop (12 * n) xs)
