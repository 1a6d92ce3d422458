-- What is made of a vector by its length, in terms of the root of the length squared.
use mathlib.Core.Path.{◌≡◌, refl}
use mathlib.Core.Bool.{◌&&◌, cond}
use Rattle.std.specs.Prelude.{Some, None}
use Rattle.vectors.specs.declared.Vec3.{Vec3}
use Rattle.vectors.specs.Number.{◌⊘◌, ◌>ᶠ◌, zero, one, finite}
use Rattle.vectors.specs.Root.{root}
use Rattle.vectors.specs.Vec3.{◌*ᵥ◌, length, length_recip, length_squared, normalize_or_zero}

pub recip-is : (v : Vec3) → length_recip v ≡ one ⊘ root (length_squared v)
unfolding length_recip length length_squared
recip-is v = refl

pub normalized-is : (v : Vec3) → normalize_or_zero v ≡ (let s = length_recip v in cond (finite s && s >ᶠ zero) (Some (v *ᵥ s)) None)
unfolding normalize_or_zero
normalized-is v = refl
