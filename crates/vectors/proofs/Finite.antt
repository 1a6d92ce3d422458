-- A vector is finite exactly where its three components are: `finite_vec` taken apart and put together, so that no proof above has to unfold it.
use mathlib.Core.Path.{◌≡◌, refl}
use mathlib.Core.Bool.{true, ◌&&◌}
use Rattle.vectors.specs.declared.Vec3.{Vec3}
use Rattle.vectors.specs.Number.{finite}
use Rattle.vectors.specs.Vec3.{finite_vec}
use Rattle.vectors.proofs.Truth.{both}

pub finite-parts : (v : Vec3) → finite_vec v ≡ true → (finite v.x ≡ true) × ((finite v.y ≡ true) × (finite v.z ≡ true))
unfolding finite_vec
finite-parts v e =
    let first_two = both (finite v.x && finite v.y) (finite v.z) e in
    let first = both (finite v.x) (finite v.y) first_two.0 in
    (first.0, (first.1, first_two.1))

pub finite-whole : (v : Vec3) → finite v.x ≡ true → finite v.y ≡ true → finite v.z ≡ true → finite_vec v ≡ true
unfolding finite_vec
finite-whole v x-finite y-finite z-finite = rw (x-finite, y-finite, z-finite)

-- which is how `finite_vec` is asked
pub finite-are : (v : Vec3) → finite_vec v ≡ (finite v.x && finite v.y && finite v.z)
unfolding finite_vec
finite-are v = refl
