-- Single numbers. A number is the toolchain's `Float` at binary32: `nan`, `inf s`, or `fin s m e`, which is m * 2 ^ e and negative where s is true.
-- Each operation below is IEEE 754's, rounded once, nearest with ties to even.
use Rattle.std.specs.Prelude.{ℕ, Bool, true, false, ◌||◌, cond, Option, Some, None, Float}
use Rattle.std.specs.Float.{nan, inf, fin, binary32}
use Rattle.std.specs.Float.Ieee.{add, sub, mul, div, lt, le, eq, is_nan, of_bits, to_bits}

-- ---- the operators of Rust's `f32`, under names that every definition uses

infixl 65 ◌⊕◌ ◌⊖◌
infixl 70 ◌⊗◌ ◌⊘◌
infix 50 ◌<ᶠ◌ ◌≤ᶠ◌ ◌>ᶠ◌ ◌≥ᶠ◌
abbrev pub ◌⊕◌ : Float → Float → Float
x ⊕ y = add binary32 x y

abbrev pub ◌⊖◌ : Float → Float → Float
x ⊖ y = sub binary32 x y

abbrev pub ◌⊗◌ : Float → Float → Float
x ⊗ y = mul binary32 x y

abbrev pub ◌⊘◌ : Float → Float → Float
x ⊘ y = div binary32 x y

-- comparisons: each is false where a NaN stands
abbrev pub ◌<ᶠ◌ : Float → Float → Bool
x <ᶠ y = lt x y

abbrev pub ◌≤ᶠ◌ : Float → Float → Bool
x ≤ᶠ y = le x y

abbrev pub ◌>ᶠ◌ : Float → Float → Bool
x >ᶠ y = lt y x

abbrev pub ◌≥ᶠ◌ : Float → Float → Bool
x ≥ᶠ y = le y x

-- ---- bit patterns, total: every NaN's pattern is `nan`, and `nan` is written 0x7FC00000

abbrev pub of_word : ℕ → Float
of_word word = of_bits binary32 word

abbrev pub to_word : Float → ℕ
to_word x = to_bits binary32 x

-- ---- numbers that the Rust writes out

abbrev pub zero : Float
zero = of_word 0

abbrev pub one : Float
one = of_word 0x3F80_0000

abbrev pub rvo_epsilon : Float
rvo_epsilon = of_word 0x3727_C5AC

-- ---- what Rust has as methods of `f32`

-- `is_finite`
unfoldable pub finite : Float → Bool
finite nan = false
finite (inf s) = false
finite (fin s m e) = true

-- `old.max(new)` and `old.min(new)`: of a NaN and a number the number, and the old one where they are equal
unfoldable pub larger : Float → Float → Float
larger old new = cond (is_nan old || old <ᶠ new) new old

unfoldable pub smaller : Float → Float → Float
smaller old new = cond (is_nan old || new <ᶠ old) new old

-- `x.clamp(low, high)`, which panics unless low <= high: none there
unfoldable pub clamped : Float → Float → Float → Option Float
clamped x low high =
    let raised = cond (x <ᶠ low) low x in
    cond (low ≤ᶠ high) (Some (cond (raised >ᶠ high) high raised)) None

-- a zero of either sign as +0
unfoldable pub plus_zero : Float → Float
plus_zero x = cond (eq x zero) zero x
