-- What the root's private functions promise each other.
use Rattle.std.specs.Prelude.{ℕ, ◌+◌, ◌-◌, ◌*◌, ◌/◌, ◌^◌, ◌≤◌, ◌<◌, false, cond, ltb, Float}
use Rattle.std.specs.Float.Ieee.Exact.{HasValue}

-- x is q * 2 ^ p * 4 ^ -149, with a q of 24 digits. The bounds on p are those of the smallest and the largest binary32.
pub record Parts (x : Float) (q p : ℕ) : Type 0 where
  pub q-least : 2 ^ 23 ≤ q
  pub q-most : q < 2 ^ 24
  pub p-least : 126 ≤ p
  pub p-most : p ≤ 402
  pub value : HasValue x false (q * 2 ^ p) (4 ^ 149)

-- one digit more: what is left over, and twice the root so far
abbrev pub rest_after : (rest twice digit : ℕ) → ℕ
rest_after rest twice digit = cond (ltb rest (twice + digit)) (rest * 2) ((rest - (twice + digit)) * 2)

abbrev pub twice_after : (rest twice digit : ℕ) → ℕ
twice_after rest twice digit = cond (ltb rest (twice + digit)) twice (twice + digit + digit)

-- after the last digit: one more where more is left over than the root
abbrev pub rounded_of : (rest twice : ℕ) → ℕ
rounded_of rest twice = cond (ltb twice rest) (twice / 2 + 1) (twice / 2)
