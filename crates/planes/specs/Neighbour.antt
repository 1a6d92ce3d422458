-- `get_plane_for_neighbour`. What the Rust calls vo_normal, relative_velocity_projected_to_vo and inside_vo is a `Projection` here.
-- The Rust does not say whether a normal could be made: `unseen` is document 02's [6].
use Rattle.std.specs.Prelude.{Bool, true, false, ◌&&◌, cond, Float}
use Rattle.std.specs.Float.Ieee.{neg}
use Rattle.vectors.specs.declared.Vec3.{Vec3}
use Rattle.vectors.specs.Number.{◌⊕◌, ◌⊖◌, ◌⊗◌, ◌⊘◌, ◌<ᶠ◌, ◌>ᶠ◌, zero, one, finite}
use Rattle.vectors.specs.Vec3.{zero_vec, ◌+ᵥ◌, ◌-ᵥ◌, ◌*ᵥ◌, ◌/ᵥ◌, dot, cross, length_squared, length_recip, normalize_or_zero, vector_of, is_zeros}
use Rattle.vectors.specs.Root.{root}
use Rattle.solver.specs.declared.Plane.{Plane}
use Rattle.solver.specs.Plane.{signed_distance}
use Rattle.requests.specs.declared.Agent.{Agent}
use Rattle.planes.specs.declared.NeighbourPlane.{NeighbourPlane}
use Rattle.planes.specs.declared.neighbour.Relation.{Relation}
use Rattle.planes.specs.declared.neighbour.Projection.{Projection}

-- relative_neighbour_position, relative_agent_velocity and sum_radius
unfoldable pub relation_of : Agent → Agent → Relation
relation_of agent neighbour = record {
  position = neighbour.position -ᵥ agent.position;
  velocity = agent.velocity -ᵥ neighbour.velocity;
  radius_sum = agent.radius ⊕ neighbour.radius;
}

-- before the tangent ring: onto the cut-off sphere
unfoldable pub on_sphere : Relation → Float → Vec3 → Vec3 → Projection
on_sphere relation horizon center from_center =
    let radius = relation.radius_sum ⊘ horizon in
    let normalized = normalize_or_zero from_center in
    let normal = vector_of normalized in
    record {
      normal = normal;
      value = normal *ᵥ radius +ᵥ center;
      inside = length_squared from_center <ᶠ radius ⊗ radius;
      unseen = is_zeros normalized;
    }

-- t, at which velocity + t * position shows the cone's normal; the root of a negative is NaN here
unfoldable pub cone_time : Relation → Float
cone_time relation =
    let leg_squared = length_squared relation.position ⊖ relation.radius_sum ⊗ relation.radius_sum in
    let rays_squared = length_squared (cross relation.position relation.velocity) in
    let a = length_squared relation.position in
    let b = dot relation.position relation.velocity in
    let c = length_squared relation.velocity ⊖ rays_squared ⊘ leg_squared in
    (neg b ⊖ root (b ⊗ b ⊖ a ⊗ c)) ⊘ a

-- past it: onto the cone; a NaN gives a zero normal
unfoldable pub on_cone : Relation → Projection
on_cone relation =
    let normalized = normalize_or_zero (relation.velocity +ᵥ relation.position *ᵥ cone_time relation) in
    let normal = vector_of normalized in
    let plane : Plane = record { point = zero_vec; normal = normal } in
    let distance = signed_distance plane relation.velocity in
    record {
      normal = normal;
      value = relation.velocity -ᵥ normal *ᵥ distance;
      inside = distance <ᶠ zero;
      unseen = is_zeros normalized;
    }

unfoldable pub projected_free : Relation → Float → Projection
projected_free relation horizon =
    let center = relation.position /ᵥ horizon in
    let from_center = relation.velocity -ᵥ center in
    let along = dot from_center relation.position in
    cond (along <ᶠ zero && along ⊗ along >ᶠ relation.radius_sum ⊗ relation.radius_sum ⊗ length_squared from_center)
    (on_sphere relation horizon center from_center)
    (on_cone relation)

-- the fallback exactly when the reciprocal length is not both finite and above 0
unfoldable pub collision_normal : Vec3 → Vec3 → Vec3
collision_normal from_center fallback =
    let scale = length_recip from_center in
    cond (finite scale && scale >ᶠ zero) (from_center *ᵥ scale) fallback

-- there is a normal, if need be the caller's
unfoldable pub projected_collision : Relation → Float → Vec3 → Projection
projected_collision relation time_step fallback =
    let center = relation.position /ᵥ time_step in
    let radius = relation.radius_sum ⊘ time_step in
    let normal = collision_normal (relation.velocity -ᵥ center) fallback in
    record {
      normal = normal;
      value = normal *ᵥ radius +ᵥ center;
      inside = true;
      unseen = false;
    }

-- distance squared > radius sum squared is the free branch, equality collides
unfoldable pub projected : Relation → Float → Float → Vec3 → Projection
projected relation horizon time_step fallback =
    cond (length_squared relation.position >ᶠ relation.radius_sum ⊗ relation.radius_sum)
    (projected_free relation horizon)
    (projected_collision relation time_step fallback)

unfoldable pub share : Float → Float → Bool → Float
share own other inside = cond inside (own ⊘ (own ⊕ other)) one

unfoldable pub plane_for : Agent → Agent → Float → Float → Vec3 → NeighbourPlane
plane_for agent neighbour horizon time_step fallback =
    let relation = relation_of agent neighbour in
    let projection = projected relation horizon time_step fallback in
    let u = projection.value -ᵥ relation.velocity in
    record {
      plane = record {
        point = agent.velocity +ᵥ u *ᵥ share agent.responsibility neighbour.responsibility projection.inside;
        normal = projection.normal;
      };
      unseen = projection.unseen;
    }
