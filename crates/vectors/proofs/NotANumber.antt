-- A NaN, and nothing else, differs from itself, Rust's test `x != x`; and its bit pattern.
use mathlib.Core.Path.{◌≡◌, refl}
use mathlib.Core.Bool.{Bool, true, false, beq}
use Prim.Native.Nat.{◌*◌}
use lib.Ieee.{Float, nan, inf, fin, is_nan, ne, up, down, to_bits}
use borrow.Author.Tests.{eq-eqb}
use Rattle.vectors.specs.Number.{to_word}
use Rattle.vectors.proofs.Truth.{no_truth}

beq-refl : (s : Bool) → beq s s ≡ true
beq-refl true = refl
beq-refl false = refl

pub is_nan-is : (x : Float) → is_nan x ≡ ne x x
unfolding is_nan ne
is_nan-is nan = refl
is_nan-is (inf s) = rw beq-refl
is_nan-is (fin s m e) = rw (beq-refl, eq-eqb (m * up e * down e) (m * up e * down e) refl)

-- all of them have one bit pattern here
pub nan_word : (x : Float) → is_nan x ≡ true → to_word x ≡ 0x7FC0_0000
unfolding is_nan to_bits
nan_word nan told = refl
nan_word (inf s) told = no_truth told
nan_word (fin s m e) told = no_truth told
