-- What the functions of a velocity call promise each other of the scratch.
use Rattle.std.specs.Prelude.{ℕ, ◌≡◌, true, List, length, Float}
use Rattle.solver.specs.declared.Plane.{Plane}
use Rattle.requests.specs.Reply.{Reply, is_answered}
use Rattle.avoidance.specs.Velocity.{planned_scratch}

-- an answer leaves what the call leaves; what a refusal leaves is as long as it was
pub record Solved (reply : Reply) (n : ℕ) (planes : List Plane) (before after : List Float) : Type 0 where
  pub same_length : length after ≡ length before
  pub left : is_answered reply ≡ true → after ≡ planned_scratch reply n planes before
