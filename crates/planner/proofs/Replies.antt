-- What the reply for an agent is, and what its request asks.
--     reply-is, scratch-is: the velocity call's, on the neighbours that the rule keeps, which go by their table indices
--     preferred-is-binary32: the components of the way to the goal are numbers of their type
use mathlib.Core.Path.{◌≡◌, refl}
use mathlib.Core.List.{List}
use Prim.Native.Nat.{ℕ}
use lib.Ieee.{Float}
use Rattle.vectors.specs.Vec3.{IsBinary32}
use Rattle.vectors.proofs.Stored.{difference-is}
use Rattle.requests.specs.Reply.{renamed}
use Rattle.avoidance.specs.Velocity.{velocity_call, scratch_after}
use Rattle.records.specs.declared.Record.{Record}
use Rattle.records.specs.Record.{position_of, goal_of}
use Rattle.planner.specs.declared.Rule.{Rule}
use Rattle.planner.specs.Plan.{request_for, own_record, neighbour_indices, neighbours_of, reply_for, reply_scratch}

module _ (time_step : Float) (rule : Rule) (rs : List Record) (index : ℕ) where
  pub reply-is : (scratch_length : ℕ)
      → reply_for time_step rule rs index scratch_length
      ≡ renamed (neighbour_indices rule rs index) (velocity_call (request_for (own_record rs index) time_step) (neighbours_of rule rs index) scratch_length)
  unfolding reply_for
  reply-is scratch_length = refl

  pub scratch-is : (scratch : List Float) → reply_scratch time_step rule rs index scratch ≡ scratch_after (request_for (own_record rs index) time_step) (neighbours_of rule rs index) scratch
  unfolding reply_scratch
  scratch-is scratch = refl

pub preferred-is-binary32 : (own : Record) (time_step : Float) → IsBinary32 (request_for own time_step).preferred
unfolding request_for
preferred-is-binary32 own time_step = difference-is (goal_of own) (position_of own)
