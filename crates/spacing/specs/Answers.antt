-- What a tally answers: document 02's numbers and places.
use Rattle.std.specs.Prelude.{ℕ, Result, Ok, Err}
use Rattle.spacing.specs.declared.Refusal.{Refusal}
use Rattle.spacing.specs.declared.Refusal.TheVariants.{TooManyAgents, WrongLength, TooManyFrames, OutOfReach}

-- at most so many agents, and so many frames
abbrev pub most_agents : ℕ
most_agents = 64

abbrev pub most_frames : ℕ
most_frames = 1048576

-- done, or refused
abbrev pub Answer : Type 0
Answer = Result (Unit {0}) Refusal

abbrev pub done : Answer
done = Ok tt

unfoldable pub number : Answer → ℕ
number (Ok _) = 0
number (Err TooManyAgents) = 9
number (Err (WrongLength numbers)) = 14
number (Err TooManyFrames) = 9
number (Err (OutOfReach place)) = 19

unfoldable pub place_of : Answer → ℕ
place_of (Ok _) = 0
place_of (Err TooManyAgents) = most_agents
place_of (Err (WrongLength numbers)) = numbers
place_of (Err TooManyFrames) = most_frames
place_of (Err (OutOfReach place)) = place
