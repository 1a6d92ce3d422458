-- What a number is that is stored as a word and read back, and which vectors have only components that a word holds.
--     word_back, stored-finite; sum_is, difference-is, product_is, zero_is, plus-zeros-is; plus-zeros-finite; zero-plus, plus-zeros-plus
use mathlib.Core.Path.{◌≡◌, refl, sym, ap, ◌∙◌}
use mathlib.Core.Bool.{Bool, true, false, cond}
use lib.Dec.{T}
use lib.Ieee.{Float, binary32, fits, eq, of_bits}
use lib.Ieee.Fits.{cond-fits, add-fits, sub-fits, mul-fits}
use lib.Ieee.Bits.{of_bits-to_bits, of_bits-fits}
use Rattle.vectors.specs.declared.Vec3.{Vec3}
use Rattle.vectors.specs.Number.{of_word, to_word, zero, finite, plus_zero}
use Rattle.vectors.specs.Vec3.{zero_vec, ◌+ᵥ◌, ◌-ᵥ◌, ◌*ᵥ◌, finite_vec, plus_zeros, IsBinary32}
use Rattle.vectors.proofs.Truth.{no_truth}
use Rattle.vectors.proofs.Finite.{finite-parts, finite-whole}

-- ---- numbers

pub word_back : (x : Float) → T (fits binary32 x) → of_word (to_word x) ≡ x
word_back x is = of_bits-to_bits binary32 x is

pub stored-finite : (x : Float) → T (fits binary32 x) → finite x ≡ true → finite (of_word (to_word x)) ≡ true
stored-finite x is x-finite = ap finite (word_back x is) ∙ x-finite

-- ---- vectors: what an operation of binary32 gives

pub sum_is : (u v : Vec3) → IsBinary32 (u +ᵥ v)
unfolding ◌+ᵥ◌
sum_is u v = (add-fits binary32 _ _, add-fits binary32 _ _, add-fits binary32 _ _)

pub difference-is : (u v : Vec3) → IsBinary32 (u -ᵥ v)
unfolding ◌-ᵥ◌
difference-is u v = (sub-fits binary32 _ _, sub-fits binary32 _ _, sub-fits binary32 _ _)

pub product_is : (v : Vec3) (s : Float) → IsBinary32 (v *ᵥ s)
unfolding ◌*ᵥ◌
product_is v s = (mul-fits binary32 _ _, mul-fits binary32 _ _, mul-fits binary32 _ _)

pub zero_is : IsBinary32 zero_vec
unfolding zero_vec
zero_is = (of_bits-fits binary32 0, of_bits-fits binary32 0, of_bits-fits binary32 0)

-- ---- a zero as +0

plus-zero-is : (x : Float) → T (fits binary32 x) → T (fits binary32 (plus_zero x))
unfolding plus_zero
plus-zero-is x is = cond-fits binary32 (eq x zero) zero x (of_bits-fits binary32 0) is

pub plus-zeros-is : (v : Vec3) → IsBinary32 v → IsBinary32 (plus_zeros v)
unfolding plus_zeros
plus-zeros-is v is = (plus-zero-is v.x is.0, plus-zero-is v.y is.1, plus-zero-is v.z is.2)

plus-zero-finite : (x : Float) → finite x ≡ true → finite (plus_zero x) ≡ true
unfolding plus_zero finite of_bits
plus-zero-finite x x-finite = go (eq x zero)
  where
    go : (b : Bool) → finite (cond b zero x) ≡ true
    go true = refl
    go false = x-finite

pub plus-zeros-finite : (v : Vec3) → finite_vec v ≡ true → finite_vec (plus_zeros v) ≡ true
unfolding plus_zeros
plus-zeros-finite v e =
    let (x-finite, (y-finite, z-finite)) = finite-parts v e in
    finite-whole (plus_zeros v) (plus-zero-finite v.x x-finite) (plus-zero-finite v.y y-finite) (plus-zero-finite v.z z-finite)

-- a component that is a zero is +0
abbrev pub PlusZeros : Vec3 → Type 0
PlusZeros v = (eq v.x zero ≡ true → v.x ≡ zero) × (eq v.y zero ≡ true → v.y ≡ zero) × (eq v.z zero ≡ true → v.z ≡ zero)

pub zero-plus : PlusZeros zero_vec
unfolding zero_vec
zero-plus = (λ e. refl, λ e. refl, λ e. refl)

plus-zero-plus : (x : Float) → eq (plus_zero x) zero ≡ true → plus_zero x ≡ zero
unfolding plus_zero
plus-zero-plus x = go (eq x zero) refl
  where
    go : (b : Bool) → eq x zero ≡ b → eq (cond b zero x) zero ≡ true → cond b zero x ≡ zero
    go true is e = refl
    go false is e = no_truth (sym is ∙ e)

pub plus-zeros-plus : (v : Vec3) → PlusZeros (plus_zeros v)
unfolding plus_zeros
plus-zeros-plus v = (plus-zero-plus v.x, plus-zero-plus v.y, plus-zero-plus v.z)
