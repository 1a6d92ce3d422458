-- What a plan asks of the velocity call: the neighbours that a rule keeps of the records, and the call for one of the agents on them.
use Rattle.std.specs.Prelude.{ℕ, suc, Bool, not, ◌&&◌, cond, List, [], ◌∷◌, ◌++◌, eqb, get_or, Float}
use Rattle.vectors.specs.Number.{◌⊕◌, ◌⊗◌, ◌≤ᶠ◌, ◌>ᶠ◌, of_word}
use Rattle.vectors.specs.Vec3.{◌-ᵥ◌, distance_squared}
use Rattle.requests.specs.declared.Request.{Request}
use Rattle.requests.specs.Lent.{agent_numbers}
use Rattle.requests.specs.Reply.{renamed, Reply}
use Rattle.avoidance.specs.Velocity.{velocity_call, scratch_after}
use Rattle.records.specs.declared.Record.{Record}
use Rattle.records.specs.Record.{blank, agent_of, position_of, radius_of, goal_of, max_speed_of, horizon_of, fallback_of}
use Rattle.planner.specs.declared.Rule.{Rule}
use Rattle.planner.specs.declared.Rule.TheVariants.{Source, Near}

-- ---- the neighbours

abbrev pub two : Float
two = of_word 0x4000_0000

-- the Rust's q
unfoldable pub query_distance : Record → Float
query_distance own = max_speed_of own ⊗ horizon_of own ⊕ radius_of own ⊗ two

-- the near rule's q, document 02's [3]: document 01's, which was the Rust's, doubled the planning drone's own radius and forgot that the other moves
unfoldable pub near_distance : Record → Record → Float
near_distance own other = (max_speed_of own ⊕ max_speed_of other) ⊗ horizon_of own ⊕ radius_of own ⊕ radius_of other

-- the Rust skips those at `<=`, and keeps the far ones
unfoldable pub keeps : Rule → Record → Record → Bool
keeps Source own other =
    distance_squared (position_of own) (position_of other) >ᶠ query_distance own ⊗ query_distance own
keeps Near own other =
    distance_squared (position_of own) (position_of other) ≤ᶠ near_distance own other ⊗ near_distance own other

-- the table indices of the others that the rule keeps, rising, where the first record has the index j
unfoldable pub kept_from : Rule → Record → ℕ → ℕ → List Record → List ℕ
kept_from rule own index j [] = []
kept_from rule own index j (other ∷ others) =
    let later = kept_from rule own index (suc j) others in
    cond (not (eqb j index) && keeps rule own other) (j ∷ later) later

-- the numbers of the agents at these indices
unfoldable pub neighbour_numbers : List Record → List ℕ → List Float
neighbour_numbers rs [] = []
neighbour_numbers rs (j ∷ js) = agent_numbers (agent_of (get_or rs j blank)) ++ neighbour_numbers rs js

-- ---- the velocity call for an agent

unfoldable pub request_for : Record → Float → Request
request_for own time_step = record {
  agent = agent_of own;
  preferred = goal_of own -ᵥ position_of own;
  max_speed = max_speed_of own;
  time_step = time_step;
  horizon = horizon_of own;
  fallback = fallback_of own;
}

abbrev pub own_record : List Record → ℕ → Record
own_record rs index = get_or rs index blank

unfoldable pub neighbour_indices : Rule → List Record → ℕ → List ℕ
neighbour_indices rule rs index = kept_from rule (own_record rs index) index 0 rs

unfoldable pub neighbours_of : Rule → List Record → ℕ → List Float
neighbours_of rule rs index = neighbour_numbers rs (neighbour_indices rule rs index)

-- neighbours go by their table indices
unfoldable pub reply_for : Float → Rule → List Record → ℕ → ℕ → Reply
reply_for time_step rule rs index scratch_length =
    renamed (neighbour_indices rule rs index)
    (velocity_call (request_for (own_record rs index) time_step) (neighbours_of rule rs index) scratch_length)

unfoldable pub reply_scratch : Float → Rule → List Record → ℕ → List Float → List Float
reply_scratch time_step rule rs index scratch =
    scratch_after (request_for (own_record rs index) time_step) (neighbours_of rule rs index) scratch
