-- Vectors, agents and requests read from lent numbers.
use Rattle.std.specs.Prelude.{cond, Option, Some, None, List, eqb, length, get_or, drop, Float}
use Rattle.std.specs.Float.{nan}
use Rattle.vectors.specs.declared.Vec3.{Vec3}
use Rattle.requests.specs.declared.Agent.{Agent}
use Rattle.requests.specs.declared.Request.{Request}
use Rattle.requests.specs.Lent.{velocity_place, radius_place, responsibility_place}
use Rattle.requests.specs.Request.{preferred_place, max_speed_place, time_step_place, horizon_place, fallback_place, per_request}

-- the vector in the first three numbers of a list
unfoldable pub vector_at : List Float → Vec3
vector_at xs = record { x = get_or xs 0 nan; y = get_or xs 1 nan; z = get_or xs 2 nan }

-- the agent in the first eight
unfoldable pub agent_at : List Float → Agent
agent_at xs = record {
  position = vector_at xs;
  velocity = vector_at (drop velocity_place xs);
  radius = get_or xs radius_place nan;
  responsibility = get_or xs responsibility_place nan;
}

-- the request whose numbers are at document 01's places
unfoldable pub request_at : List Float → Request
request_at xs = record {
  agent = agent_at xs;
  preferred = vector_at (drop preferred_place xs);
  max_speed = get_or xs max_speed_place nan;
  time_step = get_or xs time_step_place nan;
  horizon = get_or xs horizon_place nan;
  fallback = vector_at (drop fallback_place xs);
}

-- it is read from 17 numbers, no more and no fewer
unfoldable pub read_request : List Float → Option Request
read_request xs = cond (eqb (length xs) per_request) (Some (request_at xs)) None
