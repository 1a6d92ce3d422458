-- What the selections come to.
use mathlib.Core.Path.{◌≡◌, refl}
use mathlib.Core.Bool.{Bool, true, false, ◌&&◌, cond}
use Rattle.vectors.specs.declared.Vec3.{Vec3}

pub and-by : (a b : Bool) → (a && b) ≡ cond a b false
and-by true b = refl
and-by false b = refl

pub vector-by : (b : Bool) (v w : Vec3) → cond b v w ≡ record { x = cond b v.x w.x; y = cond b v.y w.y; z = cond b v.z w.z }
vector-by true v w = refl
vector-by false v w = refl
