-- The stages of a group, read at a lane, make the plane of the neighbour that the lane holds.
use mathlib.Core.Path.{◌≡◌, sym, ap, ◌∙◌}
use mathlib.Core.List.{List, map}
use Prim.Native.Nat.{ℕ, ◌<◌}
use native.Mathlib.Omega.{arith}
use lib.Ieee.{Float, nan}
use lib.ListN.{get_or, get_or-map}
use Rattle.vectors.specs.Root.{root}
use Rattle.vectors.proofs.root.Nearest.{root-of-nan}
use Rattle.requests.specs.declared.Agent.{Agent}
use Rattle.requests.specs.declared.Request.{Request}
use Rattle.planes.specs.declared.neighbour.Relation.{Relation}
use Rattle.planes.specs.declared.stages.Approach.{Approach}
use Rattle.planes.specs.declared.stages.Direction.{Direction}
use Rattle.planes.specs.Neighbour.{relation_of, plane_for}
use Rattle.planes.specs.Planes.{plane_of}
use Rattle.planes.specs.parts.Stages.{approach_of, direction_with, plane_with}
use Rattle.planes.proofs.stages.InStages.{in-stages}
use Rattle.planes.proofs.groups.planes_of.Goals as goal

lane-plane : (request : Request) (neighbour : Agent) (relation : Relation) (other : Float) (approach : Approach) (first : Float) (direction : Direction) (length : Float)
    → relation ≡ relation_of request.agent neighbour → other ≡ neighbour.responsibility → approach ≡ approach_of relation request.agent.responsibility other request.horizon request.time_step
    → first ≡ root approach.number → direction ≡ direction_with relation.position relation.velocity approach.center approach.is_cone first → length ≡ root direction.square
    → plane_with request.agent.velocity relation.velocity approach direction length request.fallback ≡ plane_for request.agent neighbour request.horizon request.time_step request.fallback
lane-plane request neighbour relation other approach first direction length h1 h2 h3 h4 h5 h6 =
    rw (h6, h5, h4, h3, h2, h1) (in-stages request.agent neighbour request.horizon request.time_step request.fallback)

-- a root among roots
root_in : (xs ys : List Float) (lane : ℕ) → ys ≡ map root xs → get_or ys lane nan ≡ root (get_or xs lane nan)
root_in xs ys lane is = ap (λ (zs : List Float). get_or zs lane nan) is ∙ ap (get_or (map root xs) lane) (sym root-of-nan) ∙ get_or-map root xs lane nan

pub returns : goal.returns
unfolding plane_of
returns c lane h =
    let below : lane < 8 = omega (arith, h, c.args.group.few) in
    let stands = c.relations_of-relations.ensures lane h in
    c.planes_with.ensures lane below
    ∙ lane-plane c.args.request _ _ _ _ _ _ _ stands.0 stands.1 (c.approaches_of-approaches.ensures lane below) (root_in c.approaches_of-approaches.result.number _ lane c.first_roots-first_roots.ensures) (c.directions_with-directions.ensures lane below) (root_in c.directions_with-directions.result.square _ lane c.roots-lengths.ensures)
