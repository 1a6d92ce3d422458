-- The size of a pattern in millimetres, as the code works it out: 0 below exponent 116, and from there on a product, shifted with a carry.
use mathlib.Core.Path.{◌≡◌, sym, ap, ◌∙◌}
use Prim.Native.Nat.{ℕ, zero, suc, ◌+◌, ◌-◌, ◌*◌, ◌/◌, ◌%◌, ◌^◌, ◌≤◌, ◌<◌}
use native.Mathlib.Nat.{mul_assoc, one-mul, le_of_lt, le_trans, lt_of_lt_of_le}
use native.Mathlib.Omega.{arith}
use lib.Pow.{pow-add, pow_pos, pow_mono, shl_lt, shl_exact, shr_lt}
use lib.Ieee.Nearest.{closest, closest_same, closest_mono}
use Rattle.spacing.specs.Millimetres.{whole_nearest}
use Rattle.spacing.specs.parts.Millimetres.{units_in, size_of}
use Rattle.spacing.proofs.Carry.{carry}

-- ---- below exponent 116

few-units : (f t : ℕ) → f < 116 → t < 2 ^ 23 → units_in f t ≤ 2 ^ 138
unfolding units_in
few-units zero t h l = le_trans (le_of_lt l) (pow_mono {i = 23} {j = 138} (omega arith))
few-units (suc x) t h l = le_trans (le_of_lt (shl_lt {a = 2 ^ 23 + t} 24 x (omega arith))) (pow_mono {i = 24 + x} {j = 138} (omega arith))

-- omega takes no number as long as 2 ^ 138
multiplied : (u most : ℕ) → u ≤ most → 1000 * u * 2048 ≤ 1000 * (most * 2048)
multiplied u most h = omega arith

pub small : (p : ℕ) → p / 2 ^ 23 < 116 → 0 ≡ size_of p
unfolding size_of whole_nearest
small p h =
    let u = units_in (p / 2 ^ 23) (p % 2 ^ 23) in
    let few : u ≤ 2 ^ 138 = few-units (p / 2 ^ 23) (p % 2 ^ 23) h (omega arith) in
    let least : closest (1000 * u) (2 ^ 149) ≤ closest 1000 2048 = closest_mono (1000 * u) (2 ^ 149) 1000 2048 (pow_pos 149) (omega arith) (multiplied u (2 ^ 138) few) in
    least_zero (closest (1000 * u) (2 ^ 149)) least
  where
    least_zero : (n : ℕ) → n ≤ 0 → 0 ≡ n
    least_zero n h = omega arith

-- ---- from exponent 116 on

scaled : (f t : ℕ) → 116 ≤ f → f ≤ 141 → closest (1000 * (2 ^ 23 + t)) (2 ^ suc (150 - f - 1)) ≡ closest (1000 * units_in f t) (2 ^ 149)
unfolding units_in
scaled zero t h l = absurd (omega arith)
scaled (suc x) t h l =
    let q = 2 ^ 23 + t in
    let j = suc (150 - suc x - 1) in
    closest_same (1000 * q) (2 ^ j) (1000 * (q * 2 ^ x)) (2 ^ 149) (pow_pos j) (pow_pos 149)
    (ap (λ (n : ℕ). 1000 * q * 2 ^ n) (split x l)
    ∙ ap (λ (n : ℕ). 1000 * q * n) (pow-add 2 x j)
    ∙ sym (mul_assoc (1000 * q) (2 ^ x) (2 ^ j))
    ∙ ap (λ (n : ℕ). n * 2 ^ j) (mul_assoc 1000 q (2 ^ x)))
  where
    split : (x : ℕ) → suc x ≤ 141 → 149 ≡ x + suc (150 - suc x - 1)
    split x l = omega arith

-- what the code calls a half
half_is : (k : ℕ) → k < 34 → 1 * 2 ^ k % 2 ^ 64 ≡ 2 ^ k
half_is k h = shl_exact {a = 1} 1 k 64 (omega arith) (omega arith) ∙ one-mul (2 ^ k)

pub half-most : (k : ℕ) → k < 34 → (1 ≤ 1 * 2 ^ k % 2 ^ 64) × (1 * 2 ^ k % 2 ^ 64 ≤ 2 ^ 33)
half-most k h =
    let most : 2 ^ k ≤ 2 ^ 33 = pow_mono {i = k} {j = 33} (omega arith) in
    (omega (arith, half_is k h, pow_pos k), omega (arith, half_is k h))

module _ (p : ℕ) (least : 116 ≤ p / 2 ^ 23) (most : p / 2 ^ 23 ≤ 141) where
  one-above : 150 - p / 2 ^ 23 ≡ suc (150 - p / 2 ^ 23 - 1)
  one-above = omega arith

  pub rounded : let n = 1000 * (2 ^ 23 + p % 2 ^ 23) in
      let lower = 150 - p / 2 ^ 23 in
      (n + (1 * 2 ^ (lower - 1) % 2 ^ 64 - 1) + n / 2 ^ lower % 2) / 2 ^ lower ≡ size_of p
  unfolding size_of whole_nearest
  rounded =
      let n = 1000 * (2 ^ 23 + p % 2 ^ 23) in
      let k = 150 - p / 2 ^ 23 - 1 in
      let half = 1 * 2 ^ k % 2 ^ 64 in
      ap (λ (j : ℕ). (n + (half - 1) + n / 2 ^ j % 2) / 2 ^ j) one-above
      ∙ carry k n half (half_is k (omega arith))
      ∙ scaled (p / 2 ^ 23) (p % 2 ^ 23) least most

  pub fits-32 : (n : ℕ) → n < 2 ^ 35 → n / 2 ^ (150 - p / 2 ^ 23) < 2 ^ 32
  fits-32 n h = shr_lt {n = n} 32 (150 - p / 2 ^ 23) (lt_of_lt_of_le h (pow_mono {i = 35} {j = 32 + (150 - p / 2 ^ 23)} (omega arith)))

pub ruleset size_steps = (small, half-most, rounded, fits-32)
