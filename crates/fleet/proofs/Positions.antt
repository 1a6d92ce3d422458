-- What `position` finds in a list, or in two taken element by element, is the first bad element.
use mathlib.Core.Path.{◌≡◌, refl, ap}
use mathlib.Core.Bool.{Bool, true, false, not, cond}
use mathlib.Core.List.{List, [], ◌∷◌}
use Prim.Native.Nat.{ℕ, suc, ◌+◌}
use Prim.Native.Nat.compare
use native.Mathlib.Omega.{arith}
use native.Mathlib.Nat.{zero-lt-suc}
use borrow.Author.Tests.{lt-ltb}
use lib.Dec.{ltb}
use lib.ListN.{length}
use Rattle.std.proofs.Math.Nat.{add-zero, zero-add}
use Rattle.std.specs.Prelude.{Option, Some, None}
use Rattle.std.specs.List.{position, position_or_len, zip}
use Rattle.refusals.specs.Conditions.{first_holding, marked, first_bad}
use Rattle.fleet.specs.Tick.{each}

module _ {A : Type 0} (test : A → Bool) where
  -- the same of a list whose first element has the index i
  abbrev from : ℕ → List A → Option ℕ
  from i xs = cond (ltb (position_or_len test xs) (length xs)) (Some (i + position_or_len test xs)) None

  from-is : (i : ℕ) (xs : List A) → from i xs ≡ first_bad (λ (index : ℕ) (x : A). test x) i xs
  unfolding first_holding marked
  from-is i [] = refl
  from-is i (x ∷ xs) = go (test x) (from-is (suc i) xs)
    where
      go : (b : Bool) → from (suc i) xs ≡ first_bad (λ (index : ℕ) (y : A). test y) (suc i) xs
          → cond (ltb (cond (not b) (1 + position_or_len test xs) 0) (suc (length xs))) (Some (i + cond (not b) (1 + position_or_len test xs) 0)) None
          ≡ cond b (Some i) (first_bad (λ (index : ℕ) (y : A). test y) (suc i) xs)
      go true later = rw (lt-ltb 0 (suc (length xs)) (zero-lt-suc (length xs))) (ap Some (add-zero i))
      go false later =
          let one : 1 + position_or_len test xs ≡ suc (position_or_len test xs) = omega arith in
          let next : i + (1 + position_or_len test xs) ≡ suc i + position_or_len test xs = omega arith in
          rw (next, one, compare.suc-suc) later

  pub position-is : (xs : List A) → position test xs ≡ first_bad (λ (index : ℕ) (x : A). test x) 0 xs
  position-is xs = rw zero-add at (from-is 0 xs)

-- of what each two give
module _ {A B C : Type 0} (f : A → B → C) (test : C → Bool) where
  pub first-of-each : (i : ℕ) (xs : List A) (ys : List B)
      → first_bad (λ (index : ℕ) (two : A × B). test (f two.0 two.1)) i (zip xs ys) ≡ first_bad (λ (index : ℕ) (z : C). test z) i (each f xs ys)
  unfolding first_holding marked each
  first-of-each i [] ys = refl
  first-of-each i (x ∷ xs) [] = refl
  first-of-each i (x ∷ xs) (y ∷ ys) = ap (cond (test (f x y)) (Some i)) (first-of-each (suc i) xs ys)
