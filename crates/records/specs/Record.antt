-- A stored agent: its 19 words, read as numbers, and the words that a tick changes.
use Rattle.std.specs.Prelude.{ℕ, ◌+◌, get_or, set, replicate, Float}
use Rattle.vectors.specs.declared.Vec3.{Vec3}
use Rattle.vectors.specs.Number.{of_word, to_word}
use Rattle.requests.specs.declared.Agent.{Agent}
use Rattle.records.specs.declared.Record.{Record}

-- at most so many agents
abbrev pub most_agents : ℕ
most_agents = 64

-- ---- words: where each number stands, or the first of three

-- the words of a record
abbrev pub per_record : ℕ
per_record = 19

abbrev pub position_word : ℕ
position_word = 0

abbrev pub velocity_word : ℕ
velocity_word = 3

abbrev pub radius_word : ℕ
radius_word = 6

abbrev pub responsibility_word : ℕ
responsibility_word = 7

abbrev pub goal_word : ℕ
goal_word = 8

abbrev pub max_speed_word : ℕ
max_speed_word = 11

abbrev pub horizon_word : ℕ
horizon_word = 12

abbrev pub fallback_word : ℕ
fallback_word = 13

abbrev pub margin_word : ℕ
margin_word = 17

abbrev pub distance_word : ℕ
distance_word = 18

-- what stands where there is no agent
unfoldable pub blank : Record
blank = record { words = replicate per_record 0 }

-- ---- words as numbers

unfoldable pub word_at : Record → ℕ → ℕ
word_at r place = get_or r.words place 0

unfoldable pub number_at : Record → ℕ → Float
number_at r place = of_word (word_at r place)

unfoldable pub vector_from : Record → ℕ → Vec3
vector_from r place = record { x = number_at r place; y = number_at r (place + 1); z = number_at r (place + 2) }

abbrev pub position_of : Record → Vec3
position_of r = vector_from r position_word

abbrev pub velocity_in : Record → Vec3
velocity_in r = vector_from r velocity_word

abbrev pub radius_of : Record → Float
radius_of r = number_at r radius_word

abbrev pub responsibility_of : Record → Float
responsibility_of r = number_at r responsibility_word

abbrev pub goal_of : Record → Vec3
goal_of r = vector_from r goal_word

abbrev pub max_speed_of : Record → Float
max_speed_of r = number_at r max_speed_word

abbrev pub horizon_of : Record → Float
horizon_of r = number_at r horizon_word

abbrev pub fallback_of : Record → Vec3
fallback_of r = vector_from r fallback_word

-- as the velocity call takes it
unfoldable pub agent_of : Record → Agent
agent_of r = record {
  position = position_of r;
  velocity = velocity_in r;
  radius = radius_of r;
  responsibility = responsibility_of r;
}

-- ---- words that a tick changes

unfoldable pub with_vector : Record → ℕ → Vec3 → Record
with_vector r place v = record {
  words = set (set (set r.words place (to_word v.x)) (place + 1) (to_word v.y)) (place + 2) (to_word v.z);
}

unfoldable pub with_goal : Vec3 → Record → Record
with_goal goal r = with_vector r goal_word goal

unfoldable pub moved_to : Record → Vec3 → Vec3 → Record
moved_to r position velocity = with_vector (with_vector r velocity_word velocity) position_word position
