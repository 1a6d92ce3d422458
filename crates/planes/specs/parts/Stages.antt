-- `plane_for` in three stages, with a square root after the first and another after the second: what is rooted, and what goes on from the root.
-- What differs between sphere, cone and collision is selected, number by number. The law `in-stages` (proofs/stages/InStages.antt) says that with `root` between them they make the same plane.
use Rattle.std.specs.Prelude.{Bool, true, false, not, ◌&&◌, cond, Float}
use Rattle.std.specs.Float.Ieee.{neg}
use Rattle.vectors.specs.declared.Vec3.{Vec3}
use Rattle.vectors.specs.Number.{◌⊕◌, ◌⊖◌, ◌⊗◌, ◌⊘◌, ◌<ᶠ◌, ◌>ᶠ◌, zero, one, finite}
use Rattle.vectors.specs.Vec3.{zero_vec, ◌+ᵥ◌, ◌-ᵥ◌, ◌*ᵥ◌, ◌/ᵥ◌, dot, cross, length_squared}
use Rattle.solver.specs.declared.Plane.{Plane}
use Rattle.solver.specs.Plane.{signed_distance}
use Rattle.planes.specs.declared.NeighbourPlane.{NeighbourPlane}
use Rattle.planes.specs.declared.neighbour.Relation.{Relation}
use Rattle.planes.specs.declared.neighbour.Projection.{Projection}
use Rattle.planes.specs.declared.stages.Approach.{Approach}
use Rattle.planes.specs.declared.stages.Direction.{Direction}

-- ---- the first stage

-- what `cone_time` takes the root of
unfoldable pub discriminant : Relation → Float
discriminant relation =
    let leg_squared = length_squared relation.position ⊖ relation.radius_sum ⊗ relation.radius_sum in
    let rays_squared = length_squared (cross relation.position relation.velocity) in
    let a = length_squared relation.position in
    let b = dot relation.position relation.velocity in
    let c = length_squared relation.velocity ⊖ rays_squared ⊘ leg_squared in
    b ⊗ b ⊖ a ⊗ c

-- before the tangent ring, as `projected_free` asks
unfoldable pub before_ring : Relation → Vec3 → Bool
before_ring relation from_center =
    let along = dot from_center relation.position in
    along <ᶠ zero && along ⊗ along >ᶠ relation.radius_sum ⊗ relation.radius_sum ⊗ length_squared from_center

-- of the relation to a neighbour, and of the two responsibilities
unfoldable pub approach_of : Relation → Float → Float → Float → Float → Approach
approach_of relation own other horizon time_step =
    let is_free = length_squared relation.position >ᶠ relation.radius_sum ⊗ relation.radius_sum in
    let time = cond is_free horizon time_step in
    let center = relation.position /ᵥ time in
    let is_cone = cond is_free (not (before_ring relation (relation.velocity -ᵥ center))) false in
    record {
      center = center;
      radius = relation.radius_sum ⊘ time;
      part = own ⊘ (own ⊕ other);
      is_free = is_free;
      is_cone = is_cone;
      number = cond is_cone (discriminant relation) zero;
    }

-- ---- the second stage, from the root of that number

unfoldable pub direction_with : Vec3 → Vec3 → Vec3 → Bool → Float → Direction
direction_with position velocity center is_cone first =
    let t = (neg (dot position velocity) ⊖ first) ⊘ length_squared position in
    let vector = cond is_cone (velocity +ᵥ position *ᵥ t) (velocity -ᵥ center) in
    record { vector = vector; square = length_squared vector }

-- ---- the third stage, from the direction and its length

-- of a reciprocal length
unfoldable pub usable : Float → Bool
usable scale = finite scale && scale >ᶠ zero

unfoldable pub projected_with : Vec3 → Approach → Direction → Float → Vec3 → Projection
projected_with velocity approach direction length fallback =
    let scale = one ⊘ length in
    let normal = cond (usable scale) (direction.vector *ᵥ scale) (cond approach.is_free zero_vec fallback) in
    let plane : Plane = record { point = zero_vec; normal = normal } in
    let distance = signed_distance plane velocity in
    record {
      normal = normal;
      value = cond approach.is_cone (velocity -ᵥ normal *ᵥ distance) (normal *ᵥ approach.radius +ᵥ approach.center);
      inside = cond approach.is_free (cond approach.is_cone (distance <ᶠ zero) (direction.square <ᶠ approach.radius ⊗ approach.radius)) true;
      unseen = cond (usable scale) false approach.is_free;
    }

unfoldable pub plane_with : Vec3 → Vec3 → Approach → Direction → Float → Vec3 → NeighbourPlane
plane_with own_velocity velocity approach direction length fallback =
    let projection = projected_with velocity approach direction length fallback in
    let u = projection.value -ᵥ velocity in
    record {
      plane = record {
        point = own_velocity +ᵥ u *ᵥ cond projection.inside approach.part one;
        normal = projection.normal;
      };
      unseen = projection.unseen;
    }
