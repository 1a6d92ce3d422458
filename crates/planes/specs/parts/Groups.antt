-- What the functions of a group of eight neighbours promise each other, lane by lane.
use Rattle.std.specs.Prelude.{ℕ, ◌+◌, ◌*◌, ◌<◌, ◌≡◌, false, List, drop, get_or, Float}
use Rattle.std.specs.Float.{nan}
use Rattle.vectors.specs.declared.Vec3.{Vec3}
use Rattle.requests.specs.declared.Agent.{Agent}
use Rattle.requests.specs.declared.Request.{Request}
use Rattle.requests.specs.Lent.{per_agent}
use Rattle.planes.specs.Lent.{agent_at}
use Rattle.planes.specs.declared.NeighbourPlane.{NeighbourPlane}
use Rattle.planes.specs.declared.neighbour.Relation.{Relation}
use Rattle.planes.specs.declared.stages.Approach.{Approach}
use Rattle.planes.specs.declared.stages.Direction.{Direction}
use Rattle.planes.specs.declared.groups.Relations.{Relations}
use Rattle.planes.specs.declared.groups.Approaches.{Approaches}
use Rattle.planes.specs.declared.groups.Directions.{Directions}
use Rattle.planes.specs.declared.groups.Planes.{Planes}
use Rattle.planes.specs.Neighbour.{relation_of}
use Rattle.planes.specs.Planes.{plane_of}
use Rattle.planes.specs.parts.Stages.{approach_of, direction_with, plane_with}

-- ---- what stands in a lane

abbrev pub vector_in : List Float → List Float → List Float → ℕ → Vec3
vector_in xs ys zs lane = record { x = get_or xs lane nan; y = get_or ys lane nan; z = get_or zs lane nan }

abbrev pub relation_in : Relations → ℕ → Relation
relation_in lanes lane = record {
  position = vector_in lanes.position_x lanes.position_y lanes.position_z lane;
  velocity = vector_in lanes.velocity_x lanes.velocity_y lanes.velocity_z lane;
  radius_sum = get_or lanes.radius_sum lane nan;
}

abbrev pub approach_in : Approaches → ℕ → Approach
approach_in lanes lane = record {
  center = vector_in lanes.center_x lanes.center_y lanes.center_z lane;
  radius = get_or lanes.radius lane nan;
  part = get_or lanes.part lane nan;
  is_free = get_or lanes.is_free lane false;
  is_cone = get_or lanes.is_cone lane false;
  number = get_or lanes.number lane nan;
}

abbrev pub direction_in : Directions → ℕ → Direction
direction_in lanes lane = record {
  vector = vector_in lanes.x lanes.y lanes.z lane;
  square = get_or lanes.square lane nan;
}

abbrev pub plane_in : Planes → ℕ → NeighbourPlane
plane_in lanes lane = record {
  plane = record {
    point = vector_in lanes.point_x lanes.point_y lanes.point_z lane;
    normal = vector_in lanes.normal_x lanes.normal_y lanes.normal_z lane;
  };
  unseen = get_or lanes.unseen lane false;
}

-- ---- the stages, in each of the first lanes

abbrev pub EachBelow : ℕ → (ℕ → Type 0) → Type 0
EachBelow size P = (lane : ℕ) → lane < size → P lane

-- the neighbour that a lane of the group from `start` on is for
abbrev pub neighbour_in : List Float → ℕ → ℕ → Agent
neighbour_in neighbours start lane = agent_at (drop (per_agent * (start + lane)) neighbours)

abbrev pub Related : Request → List Float → ℕ → ℕ → Relations → Type 0
Related request neighbours start size r =
    EachBelow size
    (λ lane. (relation_in r lane ≡ relation_of request.agent (neighbour_in neighbours start lane)) × (get_or r.responsibility lane nan ≡ (neighbour_in neighbours start lane).responsibility))

abbrev pub Approached : Relations → Float → Float → Float → Approaches → Type 0
Approached relations own horizon time_step r = EachBelow 8 (λ lane. approach_in r lane ≡ approach_of (relation_in relations lane) own (get_or relations.responsibility lane nan) horizon time_step)

abbrev pub Directed : Relations → Approaches → List Float → Directions → Type 0
Directed relations approaches roots r =
    EachBelow 8
    (λ lane. let relation = relation_in relations lane in
    let approach = approach_in approaches lane in
    direction_in r lane ≡ direction_with relation.position relation.velocity approach.center approach.is_cone (get_or roots lane nan))

abbrev pub Planed : Request → Relations → Approaches → Directions → List Float → Planes → Type 0
Planed request relations approaches directions lengths r =
    EachBelow 8
    (λ lane. plane_in r lane ≡ plane_with request.agent.velocity (relation_in relations lane).velocity (approach_in approaches lane) (direction_in directions lane) (get_or lengths lane nan) request.fallback)

-- the first lanes hold the planes for the neighbours from `start` on
abbrev pub Standing : Request → List Float → ℕ → ℕ → Planes → Type 0
Standing request neighbours start size r = EachBelow size (λ lane. plane_in r lane ≡ plane_of request (drop (per_agent * (start + lane)) neighbours))
