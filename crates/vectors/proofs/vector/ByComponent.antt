-- What an operator makes of two vectors, or of a vector and a scalar, a component at a time: for the four functions that are the operators.
use mathlib.Core.Path.{◌≡◌, refl}
use lib.Ieee.{Float}
use Rattle.vectors.specs.declared.Vec3.{Vec3}
use Rattle.vectors.specs.Number.{◌⊕◌, ◌⊖◌, ◌⊗◌, ◌⊘◌}
use Rattle.vectors.specs.Vec3.{◌+ᵥ◌, ◌-ᵥ◌, ◌*ᵥ◌, ◌/ᵥ◌}

pub sum-is : (u v : Vec3) → u +ᵥ v ≡ record { x = u.x ⊕ v.x; y = u.y ⊕ v.y; z = u.z ⊕ v.z }
unfolding ◌+ᵥ◌
sum-is u v = refl

pub difference-is : (u v : Vec3) → u -ᵥ v ≡ record { x = u.x ⊖ v.x; y = u.y ⊖ v.y; z = u.z ⊖ v.z }
unfolding ◌-ᵥ◌
difference-is u v = refl

pub product-is : (v : Vec3) (s : Float) → v *ᵥ s ≡ record { x = v.x ⊗ s; y = v.y ⊗ s; z = v.z ⊗ s }
unfolding ◌*ᵥ◌
product-is v s = refl

pub quotient-is : (v : Vec3) (s : Float) → v /ᵥ s ≡ record { x = v.x ⊘ s; y = v.y ⊘ s; z = v.z ⊘ s }
unfolding ◌/ᵥ◌
quotient-is v s = refl

pub ruleset by_component = (sum-is, difference-is, product-is, quotient-is)
