-- Numbers that are not above zero, and infinity, by what the comparisons say of them.
use mathlib.Core.Path.{◌≡◌, refl, sym, ap, ◌∙◌, subst}
use mathlib.Core.Bool.{true, false, not, false≢true, true≢false}
use Prim.Native.Nat.{ℕ, zero, suc, ◌*◌, ◌<◌}
use native.Mathlib.Nat.{mul-pos, zero-mul, zero-lt-suc}
use native.Mathlib.Omega.{arith}
use lib.Dec.{T}
use lib.Ieee.{Float, nan, inf, fin, up, down, lt, eq, div, is_nan, of_bits}
use lib.IntN.{ℤ}
use lib.Ieee.Fits.{up_pos}
use borrow.Author.Tests.{lt-ltb, ne_eqb}
use Rattle.vectors.specs.Number.{zero as zero32, one, ◌⊘◌}
use Rattle.vectors.specs.Root.{root}

pub positive-no-nan : (x : Float) → lt zero32 x ≡ true → T (not (is_nan x))
unfolding lt is_nan of_bits
positive-no-nan nan h = absurd (false≢true h)
positive-no-nan (inf s) h = tt
positive-no-nan (fin s m e) h = tt

pub infinity-stays : (x : Float) → lt zero32 x ≡ true → lt x (one ⊘ zero32) ≡ false → x ≡ root x
unfolding lt div of_bits root
infinity-stays nan h g = absurd (false≢true h)
infinity-stays (inf true) h g = absurd (false≢true h)
infinity-stays (inf false) h g = refl
infinity-stays (fin s m e) h g = absurd (true≢false g)

-- the two sides of a comparison with zero, as `lt` and `eq` multiply them out
size-pos : (m : ℕ) (e : ℤ) → 0 < suc m * up e * 1
size-pos m e = mul-pos (mul-pos (zero-lt-suc m) (up_pos e)) (zero-lt-suc 0)

zero-side : (e : ℤ) → 0 * 1 * down e ≡ 0
zero-side e = zero-mul (down e)

zero-size : (e : ℤ) → 0 * up e * 1 ≡ 0
zero-size e = ap (λ (x : ℕ). x * 1) (zero-mul (up e))

pub zero-stays : (x : Float) → eq x zero32 ≡ true → x ≡ root x
unfolding eq of_bits root
zero-stays nan h = absurd (false≢true h)
zero-stays (inf s) h = absurd (false≢true h)
zero-stays (fin s zero e) h = refl
zero-stays (fin s (suc m) e) h = absurd (false≢true (sym (simp (ne_eqb (suc m * up e * 1) (0 * 1 * down e) (λ same. apart (suc m * up e * 1) (size-pos m e) (same ∙ zero-side e)))) ∙ h))
  where
    apart : (n : ℕ) → 0 < n → n ≡ 0 → ⊥
    apart n a b = omega arith

pub rest-is-nan : (x : Float) → lt zero32 x ≡ false → eq x zero32 ≡ false → zero32 ⊘ zero32 ≡ root x
unfolding lt eq div of_bits root
rest-is-nan nan h g = refl
rest-is-nan (inf true) h g = refl
rest-is-nan (inf false) h g = absurd (true≢false h)
rest-is-nan (fin true zero e) h g = absurd (true≢false (sym (simp (zero-size, zero-side)) ∙ g))
rest-is-nan (fin false zero e) h g = absurd (true≢false (sym (simp (zero-size, zero-side)) ∙ g))
rest-is-nan (fin true (suc m) e) h g = refl
rest-is-nan (fin false (suc m) e) h g = absurd (true≢false (sym (lt-ltb (0 * 1 * down e) (suc m * up e * 1) (subst (λ (z : ℕ). z < suc m * up e * 1) (sym (zero-side e)) (size-pos m e))) ∙ h))
