-- The velocity call's request, and its numbers at document 01's places.
use Rattle.std.specs.Prelude.{ℕ, List, [], ◌∷◌, Float}
use Rattle.requests.specs.declared.Request.{Request}

-- ---- places: the agent's numbers come first

abbrev pub preferred_place : ℕ
preferred_place = 8

abbrev pub max_speed_place : ℕ
max_speed_place = 11

abbrev pub time_step_place : ℕ
time_step_place = 12

abbrev pub horizon_place : ℕ
horizon_place = 13

abbrev pub fallback_place : ℕ
fallback_place = 14

abbrev pub per_request : ℕ
per_request = 17

-- ---- a request and its numbers

unfoldable pub request_numbers : Request → List Float
request_numbers r =
    r.agent.position.x
    ∷ r.agent.position.y
    ∷ r.agent.position.z
    ∷ r.agent.velocity.x
    ∷ r.agent.velocity.y
    ∷ r.agent.velocity.z
    ∷ r.agent.radius
    ∷ r.agent.responsibility
    ∷ r.preferred.x
    ∷ r.preferred.y
    ∷ r.preferred.z
    ∷ r.max_speed
    ∷ r.time_step
    ∷ r.horizon
    ∷ r.fallback.x
    ∷ r.fallback.y
    ∷ r.fallback.z
    ∷ []
