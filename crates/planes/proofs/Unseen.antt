-- A neighbour is unseen exactly where its plane's normal is zero: the first claim of document 02's [6].
use mathlib.Core.Path.{◌≡◌, refl, sym, ◌∙◌}
use mathlib.Core.Bool.{Bool, true, false, ◌&&◌, cond}
use mathlib.Core.List.{List, []}
use Prim.Native.Nat.{ℕ, zero, suc, ◌+◌}
use lib.ListN.{drop}
use lib.Ieee.{Float}
use Rattle.vectors.specs.declared.Vec3.{Vec3}
use Rattle.vectors.specs.Number.{◌⊗◌, ◌<ᶠ◌, ◌>ᶠ◌, finite, zero as zero32}
use Rattle.vectors.specs.Vec3.{◌-ᵥ◌, ◌*ᵥ◌, ◌/ᵥ◌, dot, length_squared, length_recip, all_zero}
use Rattle.vectors.proofs.vector.NotZero.{scaled-not-zero, normalized-zeros}
use Rattle.refusals.specs.Conditions.{first_bad}
use Rattle.refusals.proofs.Conditions.{first-here, first-later, first-none}
use Rattle.requests.specs.declared.Request.{Request}
use Rattle.requests.specs.Lent.{per_agent, agent_count}
use Rattle.requests.specs.Checks.{bad_fallback}
use Rattle.requests.proofs.checks.Passed.{fallback-not-zero}
use Rattle.planes.specs.declared.neighbour.Relation.{Relation}
use Rattle.planes.specs.declared.neighbour.Projection.{Projection}
use Rattle.planes.specs.Neighbour.{relation_of, on_sphere, on_cone, projected_free, collision_normal, projected_collision, projected, plane_for}
use Rattle.planes.specs.Planes.{plane_of, each_from, planes_from, unseen_from, planes_of_call, unseen_of_call, is_unseen, first_unseen}
use Rattle.planes.specs.Claims.{zero_normal, ZeroNormal}

-- the projection says whether its normal is zero
abbrev Says : Projection → Type 0
Says projection = projection.unseen ≡ all_zero projection.normal

collision-says : (relation : Relation) (time_step : Float) (fallback : Vec3) → bad_fallback fallback ≡ false → Says (projected_collision relation time_step fallback)
unfolding projected_collision collision_normal
collision-says relation time_step fallback fit = go (finite scale) refl (scale >ᶠ zero32) refl
  where
    from_center : Vec3
    from_center = relation.velocity -ᵥ relation.position /ᵥ time_step

    scale : Float
    scale = length_recip from_center

    go : (a : Bool) → finite scale ≡ a → (b : Bool) → (scale >ᶠ zero32) ≡ b → false ≡ all_zero (cond (a && b) (from_center *ᵥ scale) fallback)
    go true ends true above = sym (scaled-not-zero from_center ends above)
    go true ends false above = sym (fallback-not-zero fallback fit)
    go false ends b above = sym (fallback-not-zero fallback fit)

free-says : (relation : Relation) (horizon : Float) → Says (projected_free relation horizon)
unfolding projected_free on_sphere on_cone
free-says relation horizon =
    go (along <ᶠ zero32 && along ⊗ along >ᶠ relation.radius_sum ⊗ relation.radius_sum ⊗ length_squared (relation.velocity -ᵥ center))
  where
    center : Vec3
    center = relation.position /ᵥ horizon

    along : Float
    along = dot (relation.velocity -ᵥ center) relation.position

    go : (b : Bool) → Says (cond b (on_sphere relation horizon center (relation.velocity -ᵥ center)) (on_cone relation))
    go true = normalized-zeros _
    go false = normalized-zeros _

projected-says : (relation : Relation) (horizon time_step : Float) (fallback : Vec3) → bad_fallback fallback ≡ false → Says (projected relation horizon time_step fallback)
unfolding projected
projected-says relation horizon time_step fallback fit = go (length_squared relation.position >ᶠ relation.radius_sum ⊗ relation.radius_sum)
  where
    go : (b : Bool) → Says (cond b (projected_free relation horizon) (projected_collision relation time_step fallback))
    go true = free-says relation horizon
    go false = collision-says relation time_step fallback fit

pub zero-normal : ZeroNormal
unfolding plane_for
zero-normal agent neighbour horizon time_step fallback fit = projected-says (relation_of agent neighbour) horizon time_step fallback fit

-- ---- the neighbours of a call

module _ (request : Request) (fit : bad_fallback request.fallback ≡ false) where
  neighbour-says : (xs : List Float) → (plane_of request xs).unseen ≡ all_zero (plane_of request xs).plane.normal
  unfolding plane_of
  neighbour-says xs = zero-normal request.agent _ request.horizon request.time_step request.fallback fit

  same_first : (n k : ℕ) (xs : List Float) → first_bad is_unseen k (unseen_from request n xs) ≡ first_bad zero_normal k (planes_from request n xs)
  unfolding each_from
  same_first zero k xs = first-none is_unseen k [] refl ∙ sym (first-none zero_normal k [] refl)
  same_first (suc n) k xs = go (plane_of request xs).unseen refl (same_first n (k + 1) (drop per_agent xs))
    where
      go : (b : Bool) → (plane_of request xs).unseen ≡ b
          → first_bad is_unseen (k + 1) (unseen_from request n (drop per_agent xs)) ≡ first_bad zero_normal (k + 1) (planes_from request n (drop per_agent xs))
          → first_bad is_unseen k (unseen_from request (suc n) xs) ≡ first_bad zero_normal k (planes_from request (suc n) xs)
      go true is later = first-here is_unseen k _ _ _ refl is ∙ sym (first-here zero_normal k _ _ _ refl (sym (neighbour-says xs) ∙ is))
      go false is later = first-later is_unseen k _ _ _ refl is ∙ later ∙ sym (first-later zero_normal k _ _ _ refl (sym (neighbour-says xs) ∙ is))

  pub first-zero : (neighbours : List Float) → first_unseen request neighbours ≡ first_bad zero_normal 0 (planes_of_call request neighbours)
  unfolding planes_of_call unseen_of_call
  first-zero neighbours = same_first (agent_count neighbours) 0 neighbours
