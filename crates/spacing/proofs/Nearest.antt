-- The millimetres of a finite number are the whole number nearest to 1000 times its value, at a tie the even one, and no other whole number is: `nearest-millimetres`.
use mathlib.Core.Path.{◌≡◌, refl, sym, ap, ap₂, ◌∙◌}
use mathlib.Core.Bool.{Bool, true, false, not}
use Prim.Native.Nat.{ℕ, zero, suc, ◌+◌, ◌*◌, ◌/◌, ◌%◌, ◌≤◌, ◌<◌, compare, Ordering}
use native.Mathlib.Nat.{add-zero, suc-mul, mul-le-mul_right, mod-lt, div-add-mod'}
use native.Mathlib.Numerals.{add-one}
use native.Mathlib.Omega.{arith}
use lib.IntN.{ℤ, pos, negsuc, neg_ℤ, nat_abs, ◌*ℤ◌, ◌-ℤ◌, neg_ℤ-neg_ℤ, neg_ℤ-+ℤ}
use lib.Dec.{is_le, compare_is_eq}
use lib.Ieee.{nearest}
use lib.Ieee.Nearest.{closest}
use borrow.Author.Tests.{leb-true, leb-false, eqb-true, eqb-false}
use Rattle.spacing.specs.Millimetres.{signed, apart}
use Rattle.spacing.specs.Claims.{NearestTo, NearestMillimetres}
use Rattle.spacing.proofs.WholeNumbers.{nat_abs-neg, neg-mul, neg-signed, apart-pos, apart-neg}
use Rattle.spacing.proofs.Patterns.{by_value}

-- -k is as far from -n / d as k is from n / d
mirrored : (s : Bool) (n d : ℕ) (k : ℤ) → NearestTo s n d k → NearestTo (not s) n d (neg_ℤ k)
mirrored s n d k h = record {
  near = omega (arith, same);
  even = λ t. rw nat_abs-neg (h.even (omega (arith, same)));
}
  where
    same : apart (neg_ℤ k *ℤ pos d) (signed (not s) n) ≡ apart (k *ℤ pos d) (signed s n)
    same =
        ap₂ apart (neg-mul k d) (neg-signed s n)
        ∙ ap nat_abs (sym (neg_ℤ-+ℤ (k *ℤ pos d) (neg_ℤ (signed s n))))
        ∙ nat_abs-neg (k *ℤ pos d -ℤ signed s n)

-- ---- `closest` is nearest

-- n / d is q + r / d: the nearest is q or the next, by which side of the half r / d lies on
module _ (n d q r : ℕ) (whole : q * d + r ≡ n) (part : r < d) where
  low : 2 * r ≤ d → (2 * r ≡ d → q % 2 ≡ 0) → NearestTo false n d (pos q)
  low below tie = record {
    near = omega (arith, apart-pos (q * d) n);
    even = λ t. tie (omega (arith, apart-pos (q * d) n));
  }

  high : d ≤ 2 * r → (2 * r ≡ d → suc q % 2 ≡ 0) → NearestTo false n d (pos (suc q))
  high above tie = record {
    near = omega (arith, apart-pos (suc q * d) n, suc-mul q d);
    even = λ t. tie (omega (arith, apart-pos (suc q * d) n, suc-mul q d));
  }

  nearest-near : (o : Ordering) → compare (r * 2) d ≡ o → NearestTo false n d (pos (nearest q o))
  nearest-near Ordering.lt e =
      low (omega (arith, leb-true (r * 2) d (ap is_le e))) (λ t. absurd (eqb-false (r * 2) d (ap compare_is_eq e) (omega arith)))
  nearest-near Ordering.gt e =
      let above = leb-false (r * 2) d (ap is_le e) in
      high (omega arith) (λ t. omega arith)
  nearest-near Ordering.eq e = go (q % 2) refl (eqb-true (r * 2) d (ap compare_is_eq e))
    where
      go : (c : ℕ) → q % 2 ≡ c → r * 2 ≡ d → NearestTo false n d (pos (q + c))
      go zero even half = rw add-zero (low (omega arith) (λ t. even))
      go (suc zero) odd half = rw add-one (high (omega arith) (λ t. omega arith))
      go (suc (suc c)) e half = absurd (omega arith)

module _ (n d : ℕ) (positive : 0 < d) where
  closest-near : NearestTo false n d (pos (closest n d))
  closest-near = nearest-near n d (n / d) (n % d) (div-add-mod' n d) (mod-lt n positive) (compare (n % d * 2) d) refl

  -- ---- no other whole number is

  -- Two that are nearest differ by 1 at most, and if they do, both are at a tie, and one of them is odd.
  not-below : (a b : ℕ) → NearestTo false n d (pos a) → NearestTo false n d (pos b) → a < b → ⊥
  not-below a b h g l =
      let p = apart-pos (a * d) n in
      let q = apart-pos (b * d) n in
      let next = suc-mul a d in
      let one_more : suc a * d ≤ b * d = mul-le-mul_right d l in
      let even-a = h.even (omega arith) in
      let even-b = g.even (omega arith) in
      let two-more : suc (suc a) * d ≤ b * d = mul-le-mul_right d (omega arith) in
      omega (arith, suc-mul (suc a) d)

  only-closest : (k : ℤ) → NearestTo false n d k → k ≡ pos (closest n d)
  only-closest (pos a) h =
      let p : ¬ (a < closest n d) = not-below a (closest n d) h closest-near in
      let q : ¬ (closest n d < a) = not-below (closest n d) a closest-near h in
      ap pos (omega arith)
  only-closest (negsuc a) h = absurd (omega (arith, apart-neg (suc a * d) n, suc-mul a d))

  -- ---- either sign

  signed-closest : (s : Bool) → NearestTo s n d (signed s (closest n d)) × ((k : ℤ) → NearestTo s n d k → k ≡ signed s (closest n d))
  signed-closest false = (closest-near, only-closest)
  signed-closest true = (
    mirrored false n d (pos (closest n d)) closest-near,
    λ k h. sym (neg_ℤ-neg_ℤ k) ∙ ap neg_ℤ (only-closest (neg_ℤ k) (mirrored true n d k h)),
  )

pub nearest-millimetres : NearestMillimetres
nearest-millimetres x s n d p v = rw (by_value x s n d p v) (signed-closest (1000 * n) d p s)
