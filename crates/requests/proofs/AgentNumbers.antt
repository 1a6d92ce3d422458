-- The numbers of an agent, one by one, and how many there are.
use mathlib.Core.Path.{◌≡◌, refl}
use mathlib.Core.List.{[], ◌∷◌}
use lib.ListN.{length}
use Rattle.requests.specs.declared.Agent.{Agent}
use Rattle.requests.specs.Lent.{per_agent, agent_numbers}

pub numbers-are : (a : Agent)
    → agent_numbers a ≡ a.position.x ∷ a.position.y ∷ a.position.z ∷ a.velocity.x ∷ a.velocity.y ∷ a.velocity.z ∷ a.radius ∷ a.responsibility ∷ []
unfolding agent_numbers
numbers-are a = refl

pub numbers-many : (a : Agent) → length (agent_numbers a) ≡ per_agent
unfolding agent_numbers
numbers-many a = refl
