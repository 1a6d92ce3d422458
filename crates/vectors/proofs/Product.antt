-- A product does not depend on the order of its factors: one `mul` of a vector and a scalar serves both of Rust's `v * s` and `s * v`.
use mathlib.Core.Path.{◌≡◌, refl, ap}
use mathlib.Core.Bool.{Bool, true, false, cond}
use Prim.Native.Nat.{◌*◌}
use native.Mathlib.Nat.{mul_comm}
use lib.Dec.{eqb}
use lib.Ieee.{Float, nan, inf, fin, unlike, up, down, mul}
use Rattle.vectors.specs.Number.{◌⊗◌}

unlike-swap : (s t : Bool) → unlike s t ≡ unlike t s
unlike-swap true true = refl
unlike-swap true false = refl
unlike-swap false true = refl
unlike-swap false false = refl

pub product-swap : (x y : Float) → x ⊗ y ≡ y ⊗ x
unfolding mul
product-swap nan nan = refl
product-swap nan (inf t) = refl
product-swap nan (fin t n d) = refl
product-swap (inf s) nan = refl
product-swap (inf s) (inf t) = ap inf (unlike-swap s t)
product-swap (inf s) (fin t n d) = ap (λ (b : Bool). cond (eqb n 0) nan (inf b)) (unlike-swap s t)
product-swap (fin s m e) nan = refl
product-swap (fin s m e) (inf t) = ap (λ (b : Bool). cond (eqb m 0) nan (inf b)) (unlike-swap s t)
product-swap (fin s m e) (fin t n d) = rw (unlike-swap s t, mul_comm (m * up e) (n * up d), mul_comm (down e) (down d))
