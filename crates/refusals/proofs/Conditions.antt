-- The first of a list that is bad: what a loop over the list needs to find it, and what having found it, or none, says of the list.
use mathlib.Core.Path.{◌≡◌, refl, sym, ap, ◌∙◌}
use mathlib.Core.Bool.{Bool, true, false, ◌||◌, cond}
use mathlib.Core.List.{List, [], ◌∷◌, ◌++◌}
use mathlib.Core.Logic.{◌↔◌}
use Prim.Native.Nat.{ℕ, zero, suc, ◌+◌, ◌≤◌, ◌<◌}
use native.Mathlib.Nat.{not-suc-le-zero, le_of_suc-le-suc, zero-lt-suc, zero-add, add-zero, add-suc, suc-add}
use native.Mathlib.Numerals.{add-one}
use native.Mathlib.Omega.{arith}
use lib.Dec.{eqb}
use lib.ListN.{length, get_or, drop, set, length-set, drop_of_length-le}
use lib.Seq.{drop-cons, get_or-set_same, get_or-set_other}
use borrow.Author.Tests.{eqb-true, eqb-false}
use Rattle.refusals.specs.Conditions.{first_holding, marked, first_bad, Lowest}
use Rattle.std.specs.Prelude.{Option, Some, None}

-- ---- what was found

pub no_place : {P : Type 0} {i : ℕ} → None ≡ Some i → P
no_place e = let z : ◌≡◌ {A = ℕ} 0 1 = cc in absurd (omega arith)

abbrev pub index_of : Option ℕ → ℕ
index_of (Some i) = i
index_of None = 0

pub same_place : {i j : ℕ} → Some i ≡ Some j → i ≡ j
same_place e = ap index_of e

-- what one list has, or else what the next has
abbrev pub or_else : Option ℕ → Option ℕ → Option ℕ
or_else (Some place) next = Some place
or_else None next = next

pub holding-append : (cs ds : List (ℕ × Bool)) → first_holding (cs ++ ds) ≡ or_else (first_holding cs) (first_holding ds)
unfolding first_holding
holding-append [] ds = refl
holding-append ((n, true) ∷ cs) ds = refl
holding-append ((n, false) ∷ cs) ds = holding-append cs ds

-- ---- conditions by other numbers

abbrev pub found_as : (ℕ → ℕ) → Option ℕ → Option ℕ
found_as f (Some n) = Some (f n)
found_as f None = None

abbrev pub renumbered : (ℕ → ℕ) → List (ℕ × Bool) → List (ℕ × Bool)
renumbered f [] = []
renumbered f ((n, b) ∷ cs) = (f n, b) ∷ renumbered f cs

pub renumbered-holding : (f : ℕ → ℕ) (cs : List (ℕ × Bool)) → first_holding (renumbered f cs) ≡ found_as f (first_holding cs)
unfolding first_holding
renumbered-holding f [] = refl
renumbered-holding f ((n, true) ∷ cs) = refl
renumbered-holding f ((n, false) ∷ cs) = renumbered-holding f cs

-- two conditions of one number, one after the other, are one
pub joined-holding : (cs : List (ℕ × Bool)) (n : ℕ) (a b : Bool) (ds : List (ℕ × Bool)) → first_holding (cs ++ (n, a) ∷ (n, b) ∷ ds) ≡ first_holding (cs ++ (n, a || b) ∷ ds)
unfolding first_holding
joined-holding [] n true b ds = refl
joined-holding [] n false true ds = refl
joined-holding [] n false false ds = refl
joined-holding ((m, true) ∷ cs) n a b ds = refl
joined-holding ((m, false) ∷ cs) n a b ds = joined-holding cs n a b ds

-- ---- the elements of a list

module _ {A : Type 0} (bad : ℕ → A → Bool) where
  pub marked_append : (i : ℕ) (xs ys : List A) → marked bad i (xs ++ ys) ≡ marked bad i xs ++ marked bad (i + length xs) ys
  unfolding marked
  marked_append i [] ys = rw (add-zero i)
  marked_append i (x ∷ xs) ys =
      ap (λ (l : List (ℕ × Bool)). (i, bad i x) ∷ l) (marked_append (suc i) xs ys ∙ ap (λ (k : ℕ). marked bad (suc i) xs ++ marked bad k ys) (suc-add i (length xs) ∙ sym (add-suc i (length xs))))

  pub bad-append : (i : ℕ) (xs ys : List A) → first_bad bad i (xs ++ ys) ≡ or_else (first_bad bad i xs) (first_bad bad (i + length xs) ys)
  bad-append i xs ys = ap first_holding (marked_append i xs ys) ∙ holding-append (marked bad i xs) (marked bad (i + length xs) ys)

  -- ---- one element, and those after it

  pub first-here : (i : ℕ) (x : A) (xs l : List A) → l ≡ x ∷ xs → bad i x ≡ true → first_bad bad i l ≡ Some i
  unfolding first_holding marked
  first-here i x xs l is bad-is = rw (is, bad-is)

  pub first-later : (i : ℕ) (x : A) (xs l : List A) → l ≡ x ∷ xs → bad i x ≡ false → first_bad bad i l ≡ first_bad bad (i + 1) xs
  unfolding first_holding marked
  first-later i x xs l is good-is = rw (is, good-is, add-one i)

  pub first-none : (i : ℕ) (l : List A) → l ≡ [] → first_bad bad i l ≡ None
  unfolding first_holding marked
  first-none i l is = rw is

  -- a list that is written out, element by element
  pub first_of : (i : ℕ) (x : A) (xs : List A) → first_bad bad i (x ∷ xs) ≡ cond (bad i x) (Some i) (first_bad bad (suc i) xs)
  unfolding first_holding marked
  first_of i x xs = refl

  pub first-of-one : (i : ℕ) (x : A) → first_bad bad i (x ∷ []) ≡ cond (bad i x) (Some i) None
  first-of-one i x = first_of i x [] ∙ ap (cond (bad i x) (Some i)) (first-none (suc i) [] refl)

  -- ---- a loop over the list, which has come to the element at `index`

  -- that is the first bad one
  pub bad-here : (start index : ℕ) (xs : List A) (d : A) → index < length xs → bad (start + index) (get_or xs index d) ≡ true → first_bad bad (start + index) (drop index xs) ≡ Some (start + index)
  unfolding first_holding marked
  bad-here start index xs d h is = rw (drop-cons xs index d h, is)

  -- that is not, and what is left to do is looked for after it
  pub bad-later : (start index : ℕ) (xs : List A) (d : A) → index < length xs → bad (start + index) (get_or xs index d) ≡ false
      → first_bad bad (start + index) (drop index xs) ≡ first_bad bad (start + (index + 1)) (drop (index + 1) xs)
  unfolding first_holding marked
  bad-later start index xs d h is = rw (drop-cons xs index d h, is, add-one index, add-suc start index)

  -- where none of the next ones is bad, what is left is looked for after them
  pub bad-skip : (n start index : ℕ) (xs : List A) (d : A) → index + n ≤ length xs → ((k : ℕ) → k < n → bad (start + (index + k)) (get_or xs (index + k) d) ≡ false)
      → first_bad bad (start + index) (drop index xs) ≡ first_bad bad (start + (index + n)) (drop (index + n) xs)
  bad-skip zero start index xs d h good = rw (add-zero index)
  bad-skip (suc n) start index xs d h good =
      let next : index + n + 1 ≡ index + suc n = omega arith in
      bad-skip n start index xs d (omega (arith, h)) (λ k less. good k (omega (arith, less)))
      ∙ bad-later start (index + n) xs d (omega (arith, h)) (good n (omega arith))
      ∙ ap (λ (k : ℕ). first_bad bad (start + k) (drop k xs)) next

  -- none is left
  pub bad-past : (place index : ℕ) (xs : List A) → length xs ≤ index → first_bad bad place (drop index xs) ≡ None
  unfolding first_holding marked
  bad-past place index xs h = ap (first_bad bad place) (drop_of_length-le xs h)

  -- ---- what the answer says of the elements

  pub none-bad : (start : ℕ) (xs : List A) → first_bad bad start xs ≡ None → (index : ℕ) (d : A) → index < length xs → bad (start + index) (get_or xs index d) ≡ false
  unfolding first_holding marked
  none-bad start [] e index d h = absurd (not-suc-le-zero h)
  none-bad start (x ∷ xs) e index d h = go (bad start x) refl e (none-bad (suc start) xs) index h
    where
      go : (b : Bool) → bad start x ≡ b → cond b (Some start) (first_bad bad (suc start) xs) ≡ None
          → (first_bad bad (suc start) xs ≡ None → (index : ℕ) (d : A) → index < length xs → bad (suc start + index) (get_or xs index d) ≡ false)
          → (index : ℕ) → index < length (x ∷ xs) → bad (start + index) (get_or (x ∷ xs) index d) ≡ false
      go true is e later index h = no_place (sym e)
      go false is e later zero h = ap (λ (k : ℕ). bad k x) (add-zero start) ∙ is
      go false is e later (suc index) h = ap (λ (k : ℕ). bad k (get_or xs index d)) (add-suc start index ∙ sym (suc-add start index)) ∙ later e index d (le_of_suc-le-suc h)

  pub all-good : (start : ℕ) (xs : List A) (d : A) → ((index : ℕ) → index < length xs → bad (start + index) (get_or xs index d) ≡ false) → first_bad bad start xs ≡ None
  unfolding first_holding marked
  all-good start [] d good = refl
  all-good start (x ∷ xs) d good =
      rw (sym (ap (λ (k : ℕ). bad k x) (add-zero start)) ∙ good 0 (zero-lt-suc (length xs)))
      (all-good (suc start) xs d (λ index h. ap (λ (k : ℕ). bad k (get_or xs index d)) (suc-add start index ∙ sym (add-suc start index)) ∙ good (suc index) (omega (arith, h))))

  -- where none is bad and a good one takes another's place, none is bad
  pub set-good : (xs : List A) (i : ℕ) (a d : A) → bad i a ≡ false → first_bad bad 0 xs ≡ None → first_bad bad 0 (set xs i a) ≡ None
  set-good xs i a d good none = all-good 0 (set xs i a) d (λ j h. go j (rw (length-set xs i a) at h) (eqb j i) refl)
    where
      go : (j : ℕ) → j < length xs → (b : Bool) → eqb j i ≡ b → bad (0 + j) (get_or (set xs i a) j d) ≡ false
      go j h true is = rw (eqb-true j i is, zero-add i, get_or-set_same xs i a d (rw (eqb-true j i is) at h)) good
      go j h false is = rw (get_or-set_other xs i j a d (eqb-false j i is)) (none-bad 0 xs none j d h)

  -- what was found is the lowest bad one
  pub found-lowest : (start : ℕ) (xs : List A) (d : A) (place : ℕ) → first_bad bad start xs ≡ Some place → Lowest bad start xs d place
  unfolding first_holding marked
  found-lowest start [] d place e = no_place e
  found-lowest start (x ∷ xs) d place e = go (bad start x) refl e (found-lowest (suc start) xs d place)
    where
      next : (index : ℕ) → suc start + index ≡ start + suc index
      next index = suc-add start index ∙ sym (add-suc start index)

      go : (b : Bool) → bad start x ≡ b → cond b (Some start) (first_bad bad (suc start) xs) ≡ Some place → (first_bad bad (suc start) xs ≡ Some place → Lowest bad (suc start) xs d place) → Lowest bad start (x ∷ xs) d place
      go true is e later = record {
        index = 0;
        at = omega (arith, same_place e);
        within = zero-lt-suc (length xs);
        is-bad = ap (λ (k : ℕ). bad k x) (add-zero start) ∙ is;
        none_before = λ i h. absurd (not-suc-le-zero h);
      }
      go false is e later =
          let found = later e in
          record {
            index = suc found.index;
            at = found.at ∙ next found.index;
            within = omega (arith, found.within);
            is-bad = ap (λ (k : ℕ). bad k (get_or xs found.index d)) (sym (next found.index)) ∙ found.is-bad;
            none_before = before found.index found.none_before;
          }
        where
          before : (index : ℕ) → ((i : ℕ) → i < index → bad (suc start + i) (get_or xs i d) ≡ false) → (i : ℕ) → i < suc index → bad (start + i) (get_or (x ∷ xs) i d) ≡ false
          before index earlier zero h = ap (λ (k : ℕ). bad k x) (add-zero start) ∙ is
          before index earlier (suc i) h = ap (λ (k : ℕ). bad k (get_or xs i d)) (sym (next i)) ∙ earlier i (le_of_suc-le-suc h)

  lowest-found : (start : ℕ) (xs : List A) (d : A) (place : ℕ) → Lowest bad start xs d place → first_bad bad start xs ≡ Some place
  lowest-found start xs d place low =
      ap (λ (k : ℕ). first_bad bad k xs) (sym (add-zero start))
      ∙ bad-skip low.index start 0 xs d (omega (arith, low.within)) (λ k less. rw (zero-add k) (low.none_before k less))
      ∙ ap (λ (k : ℕ). first_bad bad (start + k) (drop k xs)) (zero-add low.index)
      ∙ bad-here start low.index xs d low.within low.is-bad
      ∙ ap Some (sym low.at)

  pub lowest : (start : ℕ) (xs : List A) (d : A) (place : ℕ) → (first_bad bad start xs ≡ Some place) ↔ Lowest bad start xs d place
  lowest start xs d place = (found-lowest start xs d place, lowest-found start xs d place)
