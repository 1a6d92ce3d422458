-- Laws on lists: two that agree as far as they are read, and what holds of every element.
use mathlib.Core.Path.{◌≡◌, refl, ap, ◌∙◌}
use mathlib.Core.List.{List, [], ◌∷◌, ◌++◌}
use Prim.Native.Nat.{ℕ, zero, suc, ◌≤◌, ◌<◌}
use native.Mathlib.Nat.{not-suc-le-zero, le_of_suc-le-suc, zero-lt-suc}
use native.Mathlib.Omega.{arith}
use lib.ListN.{length, get_or, take, drop, set}

-- ---- two lists that agree as far as they are read

pub take_same : {A : Type 0} (n : ℕ) (ys zs : List A) (d : A) → n ≤ length ys → n ≤ length zs
    → ((i : ℕ) → i < n → get_or ys i d ≡ get_or zs i d) → take n ys ≡ take n zs
take_same zero ys zs d hy hz same = refl
take_same (suc n) [] zs d hy hz same = absurd (not-suc-le-zero hy)
take_same (suc n) (y ∷ ys) [] d hy hz same = absurd (not-suc-le-zero hz)
take_same {A} (suc n) (y ∷ ys) (z ∷ zs) d hy hz same =
    ap (λ (x : A). x ∷ take n ys) (same 0 (zero-lt-suc n))
    ∙ ap (λ (l : List A). z ∷ l) (take_same n ys zs d (le_of_suc-le-suc hy) (le_of_suc-le-suc hz) (λ i h. same (suc i) (omega (arith, h))))

-- ---- what holds of every element

abbrev pub Every : {A : Type 0} → (A → Type 0) → A → List A → Type 0
Every P d xs = (i : ℕ) → i < length xs → P (get_or xs i d)

module _ {A : Type 0} (P : A → Type 0) (d : A) where
  pub every-none : Every P d []
  every-none i h = absurd (not-suc-le-zero h)

  pub every_one : (x : A) → P x → Every P d (x ∷ [])
  every_one x p zero h = p
  every_one x p (suc i) h = absurd (not-suc-le-zero (le_of_suc-le-suc h))

  pub every_append : (xs ys : List A) → Every P d xs → Every P d ys → Every P d (xs ++ ys)
  every_append [] ys of-xs of-ys i h = of-ys i h
  every_append (x ∷ xs) ys of-xs of-ys zero h = of-xs 0 (zero-lt-suc (length xs))
  every_append (x ∷ xs) ys of-xs of-ys (suc i) h = every_append xs ys (λ j k. of-xs (suc j) (omega (arith, k))) of-ys i (le_of_suc-le-suc h)

  pub every_take : (n : ℕ) (xs : List A) → Every P d xs → Every P d (take n xs)
  every_take zero xs of-xs i h = absurd (not-suc-le-zero h)
  every_take (suc n) [] of-xs i h = absurd (not-suc-le-zero h)
  every_take (suc n) (x ∷ xs) of-xs zero h = of-xs 0 (zero-lt-suc (length xs))
  every_take (suc n) (x ∷ xs) of-xs (suc i) h = every_take n xs (λ j k. of-xs (suc j) (omega (arith, k))) i (le_of_suc-le-suc h)

  pub every_drop : (n : ℕ) (xs : List A) → Every P d xs → Every P d (drop n xs)
  every_drop zero xs of-xs i h = of-xs i h
  every_drop (suc n) [] of-xs i h = absurd (not-suc-le-zero h)
  every_drop (suc n) (x ∷ xs) of-xs i h = every_drop n xs (λ j k. of-xs (suc j) (omega (arith, k))) i h

  pub every_set : (xs : List A) (n : ℕ) (a : A) → Every P d xs → P a → Every P d (set xs n a)
  every_set [] n a of-xs p i h = absurd (not-suc-le-zero h)
  every_set (x ∷ xs) zero a of-xs p zero h = p
  every_set (x ∷ xs) zero a of-xs p (suc i) h = of-xs (suc i) h
  every_set (x ∷ xs) (suc n) a of-xs p zero h = of-xs 0 (zero-lt-suc (length xs))
  every_set (x ∷ xs) (suc n) a of-xs p (suc i) h = every_set xs n a (λ j k. of-xs (suc j) (omega (arith, k))) p i (le_of_suc-le-suc h)
