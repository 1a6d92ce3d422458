-- Vectors of three: document 01's lines on glam, one IEEE 754 operation at a time and in this order.
use Rattle.std.specs.Prelude.{Bool, ◌&&◌, cond, T, Option, Some, None, is_none, unwrap_or, Float}
use Rattle.std.specs.Float.{binary32}
use Rattle.std.specs.Float.Ieee.{fits, eq}
use Rattle.vectors.specs.declared.Vec3.{Vec3}
use Rattle.vectors.specs.Number.{◌⊕◌, ◌⊖◌, ◌⊗◌, ◌⊘◌, ◌>ᶠ◌, zero, one, finite, plus_zero}
use Rattle.vectors.specs.Root.{root}

infixl 65 ◌+ᵥ◌ ◌-ᵥ◌
infixl 70 ◌*ᵥ◌ ◌/ᵥ◌
unfoldable pub zero_vec : Vec3
zero_vec = record { x = zero; y = zero; z = zero }

unfoldable pub ◌+ᵥ◌ : Vec3 → Vec3 → Vec3
u +ᵥ v = record { x = u.x ⊕ v.x; y = u.y ⊕ v.y; z = u.z ⊕ v.z }

unfoldable pub ◌-ᵥ◌ : Vec3 → Vec3 → Vec3
u -ᵥ v = record { x = u.x ⊖ v.x; y = u.y ⊖ v.y; z = u.z ⊖ v.z }

-- the product with a scalar, from either side
unfoldable pub ◌*ᵥ◌ : Vec3 → Float → Vec3
v *ᵥ s = record { x = v.x ⊗ s; y = v.y ⊗ s; z = v.z ⊗ s }

unfoldable pub ◌/ᵥ◌ : Vec3 → Float → Vec3
v /ᵥ s = record { x = v.x ⊘ s; y = v.y ⊘ s; z = v.z ⊘ s }

unfoldable pub dot : Vec3 → Vec3 → Float
dot u v = u.x ⊗ v.x ⊕ u.y ⊗ v.y ⊕ u.z ⊗ v.z

unfoldable pub cross : Vec3 → Vec3 → Vec3
cross u v = record {
  x = u.y ⊗ v.z ⊖ v.y ⊗ u.z;
  y = u.z ⊗ v.x ⊖ v.z ⊗ u.x;
  z = u.x ⊗ v.y ⊖ v.x ⊗ u.y;
}

unfoldable pub length_squared : Vec3 → Float
unfolding dot
length_squared v = dot v v

unfoldable pub length : Vec3 → Float
unfolding dot root
length v = root (dot v v)

unfoldable pub length_recip : Vec3 → Float
unfolding length
length_recip v = one ⊘ length v

unfoldable pub normalize : Vec3 → Vec3
unfolding length_recip ◌*ᵥ◌
normalize v = v *ᵥ length_recip v

-- glam's gives the vector alone: `vector_of` of this
unfoldable pub normalize_or_zero : Vec3 → Option Vec3
unfolding length_recip finite ◌*ᵥ◌
normalize_or_zero v = let s = length_recip v in cond (finite s && s >ᶠ zero) (Some (v *ᵥ s)) None

abbrev pub vector_of : Option Vec3 → Vec3
vector_of given = unwrap_or given zero_vec

abbrev pub is_zeros : Option Vec3 → Bool
is_zeros given = is_none given

unfoldable pub distance_squared : Vec3 → Vec3 → Float
unfolding ◌-ᵥ◌ length_squared
distance_squared u v = length_squared (u -ᵥ v)

-- every component is a zero, of either sign
abbrev pub all_zero : Vec3 → Bool
all_zero v = eq v.x zero && eq v.y zero && eq v.z zero

-- every component is finite
unfoldable pub finite_vec : Vec3 → Bool
finite_vec v = finite v.x && finite v.y && finite v.z

-- not of glam: each component by `plus_zero` of Number.antt, which writes a zero of either sign as +0
unfoldable pub plus_zeros : Vec3 → Vec3
plus_zeros v = record { x = plus_zero v.x; y = plus_zero v.y; z = plus_zero v.z }

-- what the type of a vector says: its components are binary32 numbers
abbrev pub IsBinary32 : Vec3 → Type 0
IsBinary32 v = T (fits binary32 v.x) × T (fits binary32 v.y) × T (fits binary32 v.z)
