-- The stages, with the root of what each hands on between them, make `plane_for`'s plane: case by case of what is selected.
use mathlib.Core.Path.{◌≡◌, refl, sym}
use mathlib.Core.Bool.{Bool, true, false, not, ◌&&◌, cond}
use lib.Ieee.{Float}
use Rattle.std.specs.Prelude.{Some, None}
use Rattle.vectors.specs.declared.Vec3.{Vec3}
use Rattle.vectors.specs.Number.{◌⊕◌, ◌⊘◌, ◌>ᶠ◌, zero, one, finite}
use Rattle.vectors.specs.Vec3.{zero_vec, ◌-ᵥ◌, ◌*ᵥ◌, ◌/ᵥ◌, length_squared, normalize_or_zero, vector_of, is_zeros}
use Rattle.vectors.specs.Root.{root}
use Rattle.vectors.proofs.vector.ByLength.{recip-is, normalized-is}
use Rattle.requests.specs.declared.Agent.{Agent}
use Rattle.planes.specs.declared.neighbour.Relation.{Relation}
use Rattle.planes.specs.declared.neighbour.Projection.{Projection}
use Rattle.planes.specs.declared.stages.Approach.{Approach}
use Rattle.planes.specs.Neighbour.{relation_of, cone_time, on_sphere, on_cone, collision_normal, projected_free, projected_collision, projected, share, plane_for}
use Rattle.planes.specs.parts.Stages.{discriminant, before_ring, approach_of, direction_with, usable, projected_with, plane_with}

over-cond : {A B : Type 0} (f : A → B) (b : Bool) (x y : A) → f (cond b x y) ≡ cond b (f x) (f y)
over-cond f true x y = refl
over-cond f false x y = refl

cond_same : {A : Type 0} (b : Bool) (x : A) → cond b x x ≡ x
cond_same true x = refl
cond_same false x = refl

-- ---- a direction and its length

scale_of : Vec3 → Float
scale_of v = one ⊘ root (length_squared v)

normal-is : (v : Vec3) → cond (usable (scale_of v)) (v *ᵥ scale_of v) zero_vec ≡ vector_of (normalize_or_zero v)
unfolding scale_of usable
normal-is v = let s = scale_of v in rw (normalized-is v, recip-is v) (sym (over-cond vector_of (finite s && s >ᶠ zero) (Some (v *ᵥ s)) None))

unseen-is : (v : Vec3) → cond (usable (scale_of v)) false true ≡ is_zeros (normalize_or_zero v)
unfolding scale_of usable
unseen-is v = let s = scale_of v in rw (normalized-is v, recip-is v) (sym (over-cond is_zeros (finite s && s >ᶠ zero) (Some (v *ᵥ s)) None))

collision-normal-is : (v fallback : Vec3) → cond (usable (scale_of v)) (v *ᵥ scale_of v) fallback ≡ collision_normal v fallback
unfolding scale_of usable collision_normal
collision-normal-is v fallback = rw (recip-is v)

-- ---- each part of the obstacle

module _ (relation : Relation) (own other horizon time_step : Float) (fallback : Vec3) where
  -- the first stage, by what it selects
  approach_by : Bool → Bool → Approach
  approach_by is_free before =
      let time = cond is_free horizon time_step in
      let is_cone = cond is_free (not before) false in
      record {
        center = relation.position /ᵥ time;
        radius = relation.radius_sum ⊘ time;
        part = own ⊘ (own ⊕ other);
        is_free = is_free;
        is_cone = is_cone;
        number = cond is_cone (discriminant relation) zero;
      }

  -- the later ones, with the roots
  by_roots : Approach → Projection
  by_roots approach =
      let direction = direction_with relation.position relation.velocity approach.center approach.is_cone (root approach.number) in
      projected_with relation.velocity approach direction (root direction.square) fallback

  sphere-is : by_roots (approach_by true true) ≡ on_sphere relation horizon (relation.position /ᵥ horizon) (relation.velocity -ᵥ relation.position /ᵥ horizon)
  unfolding by_roots approach_by direction_with projected_with on_sphere scale_of
  sphere-is = simp (normal-is, unseen-is)

  cone-is : by_roots (approach_by true false) ≡ on_cone relation
  unfolding by_roots approach_by direction_with projected_with on_cone cone_time discriminant scale_of
  cone-is = simp (normal-is, unseen-is)

  collision-is : (before : Bool) → by_roots (approach_by false before) ≡ projected_collision relation time_step fallback
  unfolding by_roots approach_by direction_with projected_with projected_collision scale_of
  collision-is before = simp (collision-normal-is, cond_same)

  free-is : (before : Bool) → by_roots (approach_by true before) ≡ cond before (on_sphere relation horizon (relation.position /ᵥ horizon) (relation.velocity -ᵥ relation.position /ᵥ horizon)) (on_cone relation)
  free-is true = sphere-is
  free-is false = cone-is

  either_is : (is_free : Bool) (before : Bool → Bool)
      → by_roots (approach_by is_free (before is_free))
      ≡ cond is_free (cond (before true) (on_sphere relation horizon (relation.position /ᵥ horizon) (relation.velocity -ᵥ relation.position /ᵥ horizon)) (on_cone relation)) (projected_collision relation time_step fallback)
  either_is true before = free-is (before true)
  either_is false before = collision-is (before false)

  projection-is : by_roots (approach_of relation own other horizon time_step) ≡ projected relation horizon time_step fallback
  unfolding approach_of approach_by before_ring projected projected_free
  projection-is = either_is (length_squared relation.position >ᶠ _) (λ is_free. before_ring relation (relation.velocity -ᵥ relation.position /ᵥ cond is_free horizon time_step))

pub in-stages : (agent neighbour : Agent) (horizon time_step : Float) (fallback : Vec3)
    → let relation = relation_of agent neighbour in
    let approach = approach_of relation agent.responsibility neighbour.responsibility horizon time_step in
    let direction = direction_with relation.position relation.velocity approach.center approach.is_cone (root approach.number) in
    plane_with agent.velocity relation.velocity approach direction (root direction.square) fallback ≡ plane_for agent neighbour horizon time_step fallback
unfolding approach_of plane_with plane_for share by_roots
in-stages agent neighbour horizon time_step fallback = simp (projection-is (relation_of agent neighbour) agent.responsibility neighbour.responsibility horizon time_step fallback)
