-- What is left in scratch when planes are written one after another.
use mathlib.Core.Path.{◌≡◌, refl, sym, ap, ◌∙◌}
use mathlib.Core.Bool.{Bool, true, false, not, cond}
use mathlib.Core.List.{List, [], ◌∷◌, ◌++◌, append_assoc, append-nil}
use Prim.Native.Nat.{ℕ, suc, ◌+◌, ◌*◌, ◌≤◌}
use native.Mathlib.Nat.{add-zero}
use native.Mathlib.Numerals.{add-one}
use native.Mathlib.Omega.{arith}
use lib.Ieee.{Float}
use lib.ListN.{length, drop, length-append}
use Rattle.refusals.specs.Conditions.{first_bad}
use Rattle.refusals.proofs.Conditions.{first-here, first-later, first-none, no_place}
use Rattle.solver.specs.declared.Plane.{Plane}
use Rattle.solver.specs.Lent.{with_plane, numbers_of_planes}
use Rattle.solver.proofs.Written.{with-length}
use Rattle.solver.proofs.LentPlanes.{flat-none, written_next}
use Rattle.planes.specs.Planes.{finite_plane, bad_plane, written_from, planes_written}
use Rattle.std.specs.Prelude.{Option, Some, None}

-- ---- one plane, and those after it

written_on : (i : ℕ) (p : Plane) (ps : List Plane) (s : List Float) → finite_plane p ≡ true → written_from i (p ∷ ps) s ≡ written_from (i + 1) ps (with_plane s i p)
unfolding written_from
written_on i p ps s finite = rw (finite, add-one i)

written-off : (i : ℕ) (p : Plane) (ps : List Plane) (s : List Float) → finite_plane p ≡ false → written_from i (p ∷ ps) s ≡ s
unfolding written_from
written-off i p ps s bad = rw bad

pub written-nothing : (i : ℕ) (s : List Float) → written_from i [] s ≡ s
unfolding written_from
written-nothing i s = refl

-- ---- scratch stays as long as it was

written-length : (i : ℕ) (ps : List Plane) (s : List Float) → length (written_from i ps s) ≡ length s
written-length i [] s = ap length (written-nothing i s)
written-length i (p ∷ ps) s = go (finite_plane p) refl (written-length (i + 1) ps (with_plane s i p))
  where
    go : (b : Bool) → finite_plane p ≡ b → length (written_from (i + 1) ps (with_plane s i p)) ≡ length (with_plane s i p) → length (written_from i (p ∷ ps) s) ≡ length s
    go true finite later = ap length (written_on i p ps s finite) ∙ later ∙ with-length s i p
    go false bad later = ap length (written-off i p ps s bad)

pub planes-length : (ps : List Plane) (s : List Float) → length (planes_written ps s) ≡ length s
planes-length ps s = written-length 0 ps s

-- ---- one plane more, after the others

-- as it was, where a plane before is not finite, and else the next
abbrev pub unless : Option ℕ → List Float → List Float → List Float
unless (Some place) stopped next = stopped
unless None stopped next = next

abbrev More : ℕ → List Plane → Plane → List Float → Type 0
More i ps p s =
    let before = written_from i ps s in
    written_from i (ps ++ p ∷ []) s ≡ unless (first_bad bad_plane i ps) before (cond (finite_plane p) (with_plane before (i + length ps) p) before)

written-more : (i : ℕ) (ps : List Plane) (p : Plane) (s : List Float) → More i ps p s
written-more i [] p s = go (finite_plane p) refl
  where
    go : (b : Bool) → finite_plane p ≡ b → More i [] p s
    go true finite = rw (first-none bad_plane i [] refl, finite, written-nothing i s, add-zero i) (written_on i p [] s finite ∙ written-nothing (i + 1) (with_plane s i p))
    go false bad = rw (first-none bad_plane i [] refl, bad, written-nothing i s) (written-off i p [] s bad)
written-more i (q ∷ ps) p s = go (finite_plane q) refl (written-more (i + 1) ps p (with_plane s i q))
  where
    go : (b : Bool) → finite_plane q ≡ b → More (i + 1) ps p (with_plane s i q) → More i (q ∷ ps) p s
    go true finite later =
        let next : i + suc (length ps) ≡ i + 1 + length ps = omega arith in
        rw (first-later bad_plane i q ps (q ∷ ps) refl (ap not finite), written_on i q ps s finite, next) (written_on i q (ps ++ p ∷ []) s finite ∙ later)
    go false bad later = rw (first-here bad_plane i q ps (q ∷ ps) refl (ap not bad)) (written-off i q (ps ++ p ∷ []) s bad ∙ sym (written-off i q ps s bad))

pub planes-more : (ps : List Plane) (k : ℕ) (p : Plane) (s : List Float) → length ps ≡ k
    → planes_written (ps ++ p ∷ []) s ≡ unless (first_bad bad_plane 0 ps) (planes_written ps s) (cond (finite_plane p) (with_plane (planes_written ps s) k p) (planes_written ps s))
planes-more ps k p s is =
    let at : 0 + length ps ≡ k = omega (arith, is) in
    rw at at (written-more 0 ps p s)

-- ---- where all are finite, and there is room, all of them stand at the beginning

abbrev AllFrom : List Float → ℕ → List Plane → List Plane → Type 0
AllFrom s k done ps =
    length done ≡ k → first_bad bad_plane k ps ≡ None → 6 * (k + length ps) ≤ length s
    → written_from k ps (numbers_of_planes done ++ drop (6 * k) s) ≡ numbers_of_planes (done ++ ps) ++ drop (6 * (k + length ps)) s

all_from : (s : List Float) (k : ℕ) (done ps : List Plane) → AllFrom s k done ps
all_from s k done [] = λ is none room. written-nothing k _ ∙ rw (append-nil done, add-zero k)
all_from s k done (p ∷ ps) = go (finite_plane p) refl (all_from s (k + 1) (done ++ p ∷ []) ps)
  where
    go : (b : Bool) → finite_plane p ≡ b → AllFrom s (k + 1) (done ++ p ∷ []) ps → AllFrom s k done (p ∷ ps)
    go true finite rest is none room =
        let more : length (done ++ p ∷ []) ≡ k + 1 = length-append done (p ∷ []) ∙ ap (λ (n : ℕ). n + 1) is in
        let later : first_bad bad_plane (k + 1) ps ≡ None = sym (first-later bad_plane k p ps (p ∷ ps) refl (ap not finite)) ∙ none in
        let next : k + 1 + length ps ≡ k + suc (length ps) = omega arith in
        written_on k p ps _ finite
        ∙ ap (written_from (k + 1) ps) (written_next done k s p is (omega (arith, room)))
        ∙ rest more later (omega (arith, room))
        ∙ rw (append_assoc done (p ∷ []) ps, next)
    go false bad rest is none room = no_place (sym none ∙ first-here bad_plane k p ps (p ∷ ps) refl (ap not bad))

pub all-written : (ps : List Plane) (s : List Float) → first_bad bad_plane 0 ps ≡ None → 6 * length ps ≤ length s → planes_written ps s ≡ numbers_of_planes ps ++ drop (6 * length ps) s
all-written ps s none room =
    let start : numbers_of_planes [] ++ drop (6 * 0) s ≡ s = ap (λ (xs : List Float). xs ++ s) flat-none in
    let all : 0 + length ps ≡ length ps = omega arith in
    ap (written_from 0 ps) (sym start) ∙ all_from s 0 [] ps refl none (omega (arith, room)) ∙ rw all
