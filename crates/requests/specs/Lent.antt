-- Agents lent as numbers.
use Rattle.std.specs.Prelude.{ℕ, ◌/◌, List, [], ◌∷◌, length, Float}
use Rattle.requests.specs.declared.Agent.{Agent}

-- the numbers of an agent: position, velocity, radius, responsibility
abbrev pub per_agent : ℕ
per_agent = 8

abbrev pub velocity_place : ℕ
velocity_place = 3

abbrev pub radius_place : ℕ
radius_place = 6

abbrev pub responsibility_place : ℕ
responsibility_place = 7

-- the eight numbers of an agent
unfoldable pub agent_numbers : Agent → List Float
agent_numbers a = a.position.x ∷ a.position.y ∷ a.position.z ∷ a.velocity.x ∷ a.velocity.y ∷ a.velocity.z ∷ a.radius ∷ a.responsibility ∷ []

-- how many agents a list holds
abbrev pub agent_count : List Float → ℕ
agent_count xs = length xs / per_agent
