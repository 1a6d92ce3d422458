-- What is proved of the square root and of scaled vectors, each statement under its name. The proofs are in `proofs/`.
-- (`T (fits binary32 x)` says that x is a binary32.)
use Rattle.std.specs.Prelude.{◌≡◌, true, false, T, Float}
use Rattle.std.specs.Float.{nan, inf, binary32}
use Rattle.std.specs.Float.Ieee.{fits, eq}
use Rattle.vectors.specs.declared.Vec3.{Vec3}
use Rattle.vectors.specs.Number.{◌<ᶠ◌, ◌>ᶠ◌, zero, finite}
use Rattle.vectors.specs.Root.{NearestRoot, root}
use Rattle.vectors.specs.Vec3.{◌*ᵥ◌, dot, length_recip, normalize_or_zero, vector_of, is_zeros, all_zero}

-- ---- the square root

-- The root of a positive finite binary32 is a binary32, and with its argument meets document 01's statement over whole numbers.
abbrev pub RootNearest : Type 0
RootNearest = (x : Float) → T (fits binary32 x) → (x >ᶠ zero) ≡ true → finite x ≡ true → T (fits binary32 (root x)) × NearestRoot x (root x)

-- No other binary32 meets that statement: it determines the root.
abbrev pub RootOnly : Type 0
RootOnly = (x y : Float) → T (fits binary32 x) → T (fits binary32 y) → NearestRoot x y → y ≡ root x

-- The root of a zero is that zero, with its sign.
abbrev pub RootOfZero : Type 0
RootOfZero = (x : Float) → eq x zero ≡ true → root x ≡ x

-- The root of +infinity is +infinity.
abbrev pub RootOfInfinity : Type 0
RootOfInfinity = root (inf false) ≡ inf false

-- The root of whatever is below 0, -infinity too, is NaN.
abbrev pub RootOfNegative : Type 0
RootOfNegative = (x : Float) → (x <ᶠ zero) ≡ true → root x ≡ nan

-- The root of NaN is NaN.
abbrev pub RootOfNan : Type 0
RootOfNan = root nan ≡ nan

-- ---- scaled vectors

-- A vector scaled by the reciprocal of its length, where that is finite and above 0, is not all zeros, whatever its numbers.
abbrev pub ScaledNotZero : Type 0
ScaledNotZero = (v : Vec3) → finite (length_recip v) ≡ true → (length_recip v >ᶠ zero) ≡ true → all_zero (v *ᵥ length_recip v) ≡ false

-- `normalize_or_zero` says that it gives zeros exactly where the three numbers that it gives are zeros.
abbrev pub NormalizedZeros : Type 0
NormalizedZeros = (v : Vec3) → is_zeros (normalize_or_zero v) ≡ all_zero (vector_of (normalize_or_zero v))

-- A vector of zeros, of either sign, dotted with itself is +0.
abbrev pub ZeroDot : Type 0
ZeroDot = (v : Vec3) → all_zero v ≡ true → dot v v ≡ zero
