-- A loop over the lanes of two lists: what holds of the lanes passed, and of those left, when one more is written.
use mathlib.Core.Path.{◌≡◌, sym, subst, subst₂}
use mathlib.Core.Bool.{Bool, true, false, not}
use mathlib.Core.List.{List}
use Prim.Native.Nat.{ℕ, ◌+◌, ◌≤◌, ◌<◌}
use native.Mathlib.Omega.{arith}
use lib.Dec.{T, ltb, ltb→lt, nltb→le}
use lib.ListN.{length, get_or, set}
use lib.Seq.{get_or-set_same, get_or-set_other}

module _ {A B : Type 0} (a : A) (b : B) (P : ℕ → A → B → Type 0) (xs : List A) (ys : List B) (lane : ℕ) (x : A) (y : B) where
  other : (i : ℕ) → (i ≡ lane → ⊥) → P i (get_or xs i a) (get_or ys i b) → P i (get_or (set xs lane x) i a) (get_or (set ys lane y) i b)
  other i apart h = subst₂ (P i) (sym (get_or-set_other xs lane i x a apart)) (sym (get_or-set_other ys lane i y b apart)) h

  pub lane-passed : lane < length xs → lane < length ys → P lane x y → ((i : ℕ) → i < lane → P i (get_or xs i a) (get_or ys i b))
      → (i : ℕ) → i < lane + 1 → P i (get_or (set xs lane x) i a) (get_or (set ys lane y) i b)
  lane-passed in-xs in_ys here before i passed = go (ltb i lane) (ltb→lt i lane) (nltb→le i lane)
    where
      go : (t : Bool) → (T t → i < lane) → (T (not t) → lane ≤ i) → P i (get_or (set xs lane x) i a) (get_or (set ys lane y) i b)
      go true earlier last = let lower : i < lane = earlier tt in other i (λ e. omega (arith, e)) (before i lower)
      go false earlier last =
          let least : lane ≤ i = last tt in
          let same : lane ≡ i = omega arith in
          subst (λ (k : ℕ). P k (get_or (set xs lane x) k a) (get_or (set ys lane y) k b)) same
          (subst₂ (P lane) (sym (get_or-set_same xs lane x a in-xs)) (sym (get_or-set_same ys lane y b in_ys)) here)

  pub lane-left : ((i : ℕ) → lane ≤ i → P i (get_or xs i a) (get_or ys i b)) → (i : ℕ) → lane + 1 ≤ i → P i (get_or (set xs lane x) i a) (get_or (set ys lane y) i b)
  lane-left after i left = other i (λ e. omega (arith, e)) (after i (omega arith))
