-- A slice of three numbers is the vector's components after three stores, and a list of any other length is ruled out.
use mathlib.Core.Path.{◌≡◌, refl}
use mathlib.Core.List.{List, [], ◌∷◌}
use native.Mathlib.Omega.{arith}
use lib.ListN.{length, set}
use lib.Ieee.{Float}
use Rattle.vectors.specs.declared.Vec3.{Vec3}
use Rattle.guineacrumb.specs.Velocity.{components_of}
use Rattle.guineacrumb.proofs.write.Goals as goal

-- three stores leave nothing of a list of three
written : (xs : List Float) (v : Vec3) → length xs ≡ 3 → set (set (set xs 0 v.x) 1 v.y) 2 v.z ≡ components_of v
unfolding components_of
written [] v three = absurd (omega (arith, three))
written (x ∷ []) v three = absurd (omega (arith, three))
written (x ∷ y ∷ []) v three = absurd (omega (arith, three))
written (x ∷ y ∷ z ∷ []) v three = refl
written (x ∷ y ∷ z ∷ w ∷ xs) v three = absurd (omega (arith, three))

pub returns : goal.returns
returns c = written c.args.vector.now c.args.v c.requires
