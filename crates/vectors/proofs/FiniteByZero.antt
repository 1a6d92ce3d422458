-- Of numbers times 0 the sum is a zero where all are finite, and else a NaN.
use mathlib.Core.Path.{◌≡◌, refl, sym, ap, ◌∙◌}
use mathlib.Core.Bool.{Bool, true, false, ◌&&◌}
use Prim.Native.Nat.{ℕ, ◌*◌, ◌<◌}
use native.Mathlib.Nat.{mul-zero, zero-mul, mul-one}
use native.Mathlib.Omega.{arith}
use lib.IntN.{pos}
use lib.Ieee.{Float, nan, inf, fin, binary32, up, down, round, add, mul, eq, of_bits}
use lib.Ieee.Fits.{down_pos}
use lib.Ieee.Scale.{round_same}
use Rattle.vectors.specs.declared.Vec3.{Vec3}
use Rattle.vectors.specs.Number.{◌⊕◌, ◌⊗◌, zero, finite}
use Rattle.vectors.specs.Vec3.{finite_vec}

-- a zero, of either sign, or a NaN
abbrev Told : Bool → Float → Type 0
Told true x = (s : Bool) × (x ≡ fin s 0 (pos 0))
Told false x = x ≡ nan

rounded : (s : Bool) (num den : ℕ) → 0 < den → num ≡ 0 → round binary32 s num den ≡ fin s 0 (pos 0)
unfolding round
rounded s num den above none = round_same binary32 s num den 0 1 above (omega arith) (ap (λ (n : ℕ). n * 1) none ∙ sym (zero-mul den))

told-product : (x : Float) → Told (finite x) (x ⊗ zero)
unfolding finite mul of_bits
told-product nan = refl
told-product (inf s) = refl
told-product (fin s m e) = (_, rounded _ (m * up e * 0) (down e * 1) (rw (mul-one (down e)) (down_pos e)) (mul-zero (m * up e)))

zeros : (s t : Bool) → Told true (fin s 0 (pos 0) ⊕ fin t 0 (pos 0))
unfolding add
zeros true true = (true, refl)
zeros true false = (false, refl)
zeros false true = (false, refl)
zeros false false = (false, refl)

told-sum : (a b : Bool) (x y : Float) → Told a x → Told b y → Told (a && b) (x ⊕ y)
unfolding add
told-sum true true x y h g = rw (h.1, g.1) (zeros h.0 g.0)
told-sum true false x y h g = rw (h.1, g) refl
told-sum false b x y h g = rw h refl

zero_is : (s : Bool) → eq (fin s 0 (pos 0)) zero ≡ true
unfolding eq of_bits
zero_is true = refl
zero_is false = refl

told-zero : (a : Bool) (x : Float) → Told a x → eq x zero ≡ a
unfolding eq of_bits
told-zero true x h = rw h.1 (zero_is h.0)
told-zero false x h = rw h refl

abbrev pub by_zero : Vec3 → Float
by_zero v = v.x ⊗ zero ⊕ v.y ⊗ zero ⊕ v.z ⊗ zero

told-vector : (v : Vec3) → Told (finite_vec v) (by_zero v)
unfolding finite_vec
told-vector v =
    told-sum (finite v.x && finite v.y) (finite v.z) (v.x ⊗ zero ⊕ v.y ⊗ zero) (v.z ⊗ zero)
    (told-sum (finite v.x) (finite v.y) (v.x ⊗ zero) (v.y ⊗ zero) (told-product v.x) (told-product v.y))
    (told-product v.z)

pub both-finite : (u v : Vec3) → eq (by_zero u ⊕ by_zero v) zero ≡ (finite_vec u && finite_vec v)
both-finite u v = told-zero (finite_vec u && finite_vec v) (by_zero u ⊕ by_zero v) (told-sum (finite_vec u) (finite_vec v) (by_zero u) (by_zero v) (told-vector u) (told-vector v))
