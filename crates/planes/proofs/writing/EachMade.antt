-- What is made of each neighbour, as far as one of them, and the first that is bad: a plane that is not finite, or a neighbour that is unseen.
use mathlib.Core.Path.{◌≡◌, refl, sym, ap, ◌∙◌}
use mathlib.Core.Bool.{Bool, cond}
use mathlib.Core.List.{List, [], ◌∷◌, ◌++◌}
use Prim.Native.Nat.{ℕ, zero, suc, ◌+◌, ◌*◌}
use native.Mathlib.Nat.{zero-add, add-zero}
use native.Mathlib.Omega.{arith}
use lib.Ieee.{Float}
use lib.ListN.{length, drop}
use lib.Seq.{drop-drop}
use Rattle.refusals.specs.Conditions.{first_bad}
use Rattle.refusals.specs.Verdict.{refused_at}
use Rattle.refusals.proofs.Conditions.{or_else, bad-append, first-of-one}
use Rattle.requests.specs.declared.Request.{Request}
use Rattle.requests.specs.Lent.{agent_count}
use Rattle.refusals.specs.declared.Refusal.{Refusal}
use Rattle.refusals.specs.declared.Refusal.TheVariants.{PlaneNotFinite}
use Rattle.planes.specs.Planes.{each_from, planes_of_call, first_unseen, bad_plane, made_of, planes_made}
use Rattle.std.specs.Prelude.{Option, Some, None, Ok, Err}

-- ---- the list

module _ {A : Type 0} (f : List Float → A) where
  pub from-length : (n : ℕ) (xs : List Float) → length (each_from f n xs) ≡ n
  unfolding each_from
  from-length zero xs = refl
  from-length (suc n) xs = ap suc (from-length n (drop 8 xs))

  pub from_more : (k : ℕ) (xs : List Float) → each_from f (k + 1) xs ≡ each_from f k xs ++ f (drop (8 * k) xs) ∷ []
  unfolding each_from
  from_more zero xs = refl
  from_more (suc k) xs =
      let next : 8 + 8 * k ≡ 8 * suc k = omega arith in
      let next-count : suc k + 1 ≡ suc (k + 1) = omega arith in
      ap (λ (m : ℕ). each_from f m xs) next-count
      ∙ ap (λ (more : List A). f xs ∷ more) (from_more k (drop 8 xs) ∙ ap (λ (ys : List Float). each_from f k (drop 8 xs) ++ f ys ∷ []) (drop-drop (8 * k) 8 xs ∙ ap (λ (m : ℕ). drop m xs) next))

  -- ---- the first that is bad

  module _ (bad : ℕ → A → Bool) where
    -- one more: it is the first only where there was none
    pub found-more : (k : ℕ) (xs : List Float) → first_bad bad 0 (each_from f (k + 1) xs) ≡ or_else (first_bad bad 0 (each_from f k xs)) (cond (bad k (f (drop (8 * k) xs))) (Some k) None)
    found-more k xs =
        let here : 0 + length (each_from f k xs) ≡ k = zero-add _ ∙ from-length k xs in
        ap (first_bad bad 0) (from_more k xs)
        ∙ bad-append bad 0 (each_from f k xs) (f (drop (8 * k) xs) ∷ [])
        ∙ ap (λ (i : ℕ). or_else (first_bad bad 0 (each_from f k xs)) (first_bad bad i (f (drop (8 * k) xs) ∷ []))) here
        ∙ ap (or_else (first_bad bad 0 (each_from f k xs))) (first-of-one bad k (f (drop (8 * k) xs)))

    -- it stays the first, however many more there are
    pub found-kept : (more k : ℕ) (xs : List Float) {place : ℕ} → first_bad bad 0 (each_from f k xs) ≡ Some place → first_bad bad 0 (each_from f (k + more) xs) ≡ Some place
    found-kept zero k xs is = ap (λ (n : ℕ). first_bad bad 0 (each_from f n xs)) (add-zero k) ∙ is
    found-kept (suc more) k xs is =
        let one : k + suc more ≡ k + more + 1 = omega arith in
        ap (λ (n : ℕ). first_bad bad 0 (each_from f n xs)) one ∙ found-more (k + more) xs ∙ rw (found-kept more k xs is)

-- a call has a plane for each neighbour
pub planes-many : (request : Request) (neighbours : List Float) → length (planes_of_call request neighbours) ≡ agent_count neighbours
unfolding planes_of_call
planes-many request neighbours = from-length _ (agent_count neighbours) neighbours

-- ---- what making the planes came to

pub none_made : (found first unseen : Option ℕ) → Ok unseen ≡ made_of found first → (found ≡ None) × (unseen ≡ first)
none_made (Some neighbour) first unseen e = cc
none_made None first unseen e = (refl, cc)

-- a refusal is that of the plane that was found
pub one-made : (found first : Option ℕ) (refusal : Refusal) → Err refusal ≡ made_of found first → (place : ℕ) × (found ≡ Some place) × (refusal ≡ PlaneNotFinite place)
one-made (Some k) first refusal e = (k, refl, cc)
one-made None first refusal e = cc

-- of a call
module _ (request : Request) (neighbours : List Float) where
  pub made-finite : (unseen : Option ℕ) → Ok unseen ≡ planes_made request neighbours → (first_bad bad_plane 0 (planes_of_call request neighbours) ≡ None) × (first_unseen request neighbours ≡ unseen)
  unfolding planes_made
  made-finite unseen made = let (none, first) = none_made (first_bad bad_plane 0 (planes_of_call request neighbours)) (first_unseen request neighbours) unseen made in (none, sym first)

  pub made-not-finite : (refusal : Refusal) → Err refusal ≡ planes_made request neighbours → refused_at (first_bad bad_plane 0 (planes_of_call request neighbours)) PlaneNotFinite ≡ Err refusal
  unfolding planes_made
  made-not-finite refusal made = let (place, found, is) = one-made (first_bad bad_plane 0 (planes_of_call request neighbours)) (first_unseen request neighbours) refusal made in ap (λ (f : Option ℕ). refused_at f PlaneNotFinite) found ∙ ap Err (sym is)
