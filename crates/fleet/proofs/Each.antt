-- Laws on two lists taken element by element.
use mathlib.Core.Path.{◌≡◌, refl, sym, ap, ◌∙◌, subst}
use mathlib.Core.List.{List, [], ◌∷◌, ◌++◌, append_assoc, append-nil}
use Prim.Native.Nat.{ℕ, zero, suc, ◌+◌, ◌≤◌, ◌<◌}
use native.Mathlib.Nat.{not-suc-le-zero, le_of_suc-le-suc}
use native.Mathlib.Numerals.{add-one}
use native.Mathlib.Omega.{arith}
use lib.ListN.{length, get_or, take, drop, set, length-set, drop_of_length-le}
use lib.Seq.{take-suc-set, take_all, drop-set-lt}
use Rattle.fleet.specs.Tick.{each}
use Rattle.fleet.proofs.Lists.{Every}

module _ {A B C : Type 0} (f : A → B → C) where
  pub each-drop : (i : ℕ) (xs : List A) (ys : List B) (d : A) (e : B) → i < length xs → i < length ys
      → each f (drop i xs) (drop i ys) ≡ f (get_or xs i d) (get_or ys i e) ∷ each f (drop (suc i) xs) (drop (suc i) ys)
  unfolding each
  each-drop i [] ys d e h k = absurd (not-suc-le-zero h)
  each-drop i (x ∷ xs) [] d e h k = absurd (not-suc-le-zero k)
  each-drop zero (x ∷ xs) (y ∷ ys) d e h k = refl
  each-drop (suc i) (x ∷ xs) (y ∷ ys) d e h k = each-drop i xs ys d e (le_of_suc-le-suc h) (le_of_suc-le-suc k)

  -- only as many are read as there are of the first list
  pub each-front : (xs : List A) (ys : List B) → each f xs ys ≡ each f xs (take (length xs) ys)
  unfolding each
  each-front [] ys = refl
  each-front (x ∷ xs) [] = refl
  each-front (x ∷ xs) (y ∷ ys) = ap (λ (l : List C). f x y ∷ l) (each-front xs ys)

  pub each-length : (xs : List A) (ys : List B) → length xs ≤ length ys → length (each f xs ys) ≡ length xs
  unfolding each
  each-length [] ys h = refl
  each-length (x ∷ xs) [] h = absurd (not-suc-le-zero h)
  each-length (x ∷ xs) (y ∷ ys) h = ap suc (each-length xs ys (le_of_suc-le-suc h))

  pub each_at : (xs : List A) (ys : List B) (i : ℕ) (d : A) (e : B) (c : C) → i < length xs → i < length ys
      → get_or (each f xs ys) i c ≡ f (get_or xs i d) (get_or ys i e)
  unfolding each
  each_at [] ys i d e c h k = absurd (not-suc-le-zero h)
  each_at (x ∷ xs) [] i d e c h k = absurd (not-suc-le-zero k)
  each_at (x ∷ xs) (y ∷ ys) zero d e c h k = refl
  each_at (x ∷ xs) (y ∷ ys) (suc i) d e c h k = each_at xs ys i d e c (le_of_suc-le-suc h) (le_of_suc-le-suc k)

  pub each_set : (xs : List A) (ys : List B) (i : ℕ) (y : B) (d : A) → i < length xs → i < length ys
      → each f xs (set ys i y) ≡ set (each f xs ys) i (f (get_or xs i d) y)
  unfolding each
  each_set [] ys i y d h k = absurd (not-suc-le-zero h)
  each_set (x ∷ xs) [] i y d h k = absurd (not-suc-le-zero k)
  each_set (x ∷ xs) (z ∷ ys) zero y d h k = refl
  each_set (x ∷ xs) (z ∷ ys) (suc i) y d h k = ap (λ (l : List C). f x z ∷ l) (each_set xs ys i y d (le_of_suc-le-suc h) (le_of_suc-le-suc k))

  -- second lists that agree as far as they are read give the same
  pub each_same : (xs : List A) (ys zs : List B) → take (length xs) ys ≡ take (length xs) zs → each f xs ys ≡ each f xs zs
  each_same xs ys zs same = each-front xs ys ∙ ap (each f xs) same ∙ sym (each-front xs zs)

  -- what holds of what each two give holds of every result
  pub each-every : (P : C → Type 0) (xs : List A) (ys : List B) (d : A) (e : B) (c : C) → length xs ≤ length ys
      → ((i : ℕ) → i < length xs → P (f (get_or xs i d) (get_or ys i e))) → Every P c (each f xs ys)
  each-every P xs ys d e c room all i h =
      let there : i < length xs = omega (arith, each-length xs ys room) in
      subst P (sym (each_at xs ys i d e c there (omega arith))) (all i there)

-- ---- a list changed in place: the elements before i, and what becomes of those that are left

module _ {A B : Type 0} (f : A → B → A) where
  pub changed_more : (i : ℕ) (xs : List A) (ys : List B) (x d : A) (e : B) → x ≡ f (get_or xs i d) (get_or ys i e) → i < length xs → i < length ys
      → take (i + 1) (set xs i x) ++ each f (drop (i + 1) (set xs i x)) (drop (i + 1) ys) ≡ take i xs ++ each f (drop i xs) (drop i ys)
  changed_more i xs ys x d e is there held =
      rw (add-one i, take-suc-set xs i x there, drop-set-lt (suc i) xs i x (omega arith), each-drop f i xs ys d e there held, is)
      (append_assoc (take i xs) (f (get_or xs i d) (get_or ys i e) ∷ []) (each f (drop (suc i) xs) (drop (suc i) ys)))

  pub changed_all : (i : ℕ) (xs : List A) (ys : List B) → length xs ≤ i → take i xs ++ each f (drop i xs) (drop i ys) ≡ xs
  unfolding each
  changed_all i xs ys past = rw (take_all i xs past, drop_of_length-le xs past) (append-nil xs)

pub as_long : {A : Type 0} (xs : List A) (i : ℕ) (x : A) → length (set xs i x) ≡ length xs
as_long xs i x = length-set xs i x

pub ruleset changes = (changed_more, changed_all, as_long)
