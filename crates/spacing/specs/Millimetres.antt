-- Whole millimetres of a component: 1000 times its exact value, nearest, ties to even. Nothing is rounded before the end.
use Prim.Native.Nat.{ℕ, ◌*◌, ◌/◌, ◌%◌, compare}
use Rattle.std.specs.Prelude.{Bool, true, false, ℤ, pos, neg_ℤ, nat_abs, ◌-ℤ◌, Float}
use Rattle.std.specs.Float.{nan, inf, fin}
use Rattle.std.specs.Float.Ieee.{up, down, nearest}

-- the whole number of that size, negative where s is true
abbrev pub signed : Bool → ℕ → ℤ
signed false n = pos n
signed true n = neg_ℤ (pos n)

-- how far apart two whole numbers are
abbrev pub apart : ℤ → ℤ → ℕ
apart a b = nat_abs (a -ℤ b)

-- The whole number nearest to n / d, and at a tie the even one: the whole part or the next, by how twice the remainder compares with d.
unfoldable pub whole_nearest : ℕ → ℕ → ℕ
whole_nearest n d = nearest (n / d) (compare (n % d * 2) d)

-- A finite number is m * 2 ^ e, which is the fraction m * up e / down e. A NaN and an infinity are refused before they come here.
unfoldable pub millimetres : Float → ℤ
millimetres nan = pos 0
millimetres (inf s) = pos 0
millimetres (fin s m e) = signed s (whole_nearest (1000 * (m * up e)) (down e))
