-- A binary digit at a time: the whole root of the digits that are taken, with one more of its own.
use mathlib.Core.Path.{◌≡◌, refl, ap, ◌∙◌}
use Prim.Native.Nat.{ℕ, suc, ◌+◌, ◌-◌, ◌*◌, ◌/◌, ◌^◌, ◌≤◌, ◌<◌}
use native.Mathlib.Nat.{div-one, pow-suc}
use native.Mathlib.Omega.{arith}
use lib.Pow.{shr-shr}
use borrow.Author.Tests.{le-leb, lt-leb}
use Rattle.vectors.specs.Root.{floor_root}

-- the root of the digits that are taken, where so many of its own are left
abbrev pub taken : ℕ → ℕ → ℕ
taken square left = floor_root (32 - left) (square / 2 ^ (2 * left))

module _ (square left : ℕ) (some : 0 < left) (few : left ≤ 32) where
  abbrev next : ℕ
  next = 2 * taken square left + 1

  abbrev digits : ℕ
  digits = square / 2 ^ (2 * (left - 1))

  one_more : 32 - (left - 1) ≡ suc (32 - left)
  one_more = omega arith

  quarter : digits / 4 ≡ square / 2 ^ (2 * left)
  quarter =
      let two-more : 2 * (left - 1) + 2 ≡ 2 * left = omega arith in
      shr-shr square (2 * (left - 1)) 2 ∙ ap (λ (n : ℕ). square / 2 ^ n) two-more

  pub digit-1 : next * next ≤ digits → taken square (left - 1) ≡ next
  unfolding floor_root
  digit-1 h = rw (one_more, quarter, le-leb _ _ h)

  pub digit-0 : digits < next * next → taken square (left - 1) ≡ next - 1
  unfolding floor_root
  digit-0 h = rw (one_more, quarter, lt-leb _ _ h) (omega arith)

  pub doubled : 2 ^ (32 - (left - 1)) ≡ 2 ^ (32 - left) * 2
  doubled = rw one_more (pow-suc 2 (32 - left))

pub no_digit : (a : ℕ) → floor_root 0 a ≡ 0
unfolding floor_root
no_digit a = refl

pub all_digits : (square : ℕ) → taken square 0 ≡ floor_root 32 square
all_digits square = ap (floor_root 32) (div-one square)

pub ruleset root_digits = (digit-1, digit-0, doubled, no_digit, all_digits)
