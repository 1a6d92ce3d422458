-- Of the agents passed, those that the rule keeps stand in the list: a turn adds one, or passes over one not kept or the agent itself.
use native.Mathlib.Omega.{arith}
use Rattle.std.proofs.lemmas.Grind.{common_steps}
use Rattle.requests.proofs.AgentNumbers.{numbers-many}
use Rattle.planner.proofs.Kept.{walk}
use Rattle.planner.proofs.plan.neighbours_of.Goals as goal
use Rattle.planner.proofs.plan.neighbours_of.Goals.{then-is_other+then-keeps, else-is_other, else-is_other-via-then-is_other+else-keeps, else-is_other-via-else-is_other}

pub loop-at-preserved : goal.loop-at-preserved
loop-at-preserved c =
    elim c.if-is_other.branch [
      | then-is_other+then-keeps w ↦ grind (arith, common_steps, walk, numbers-many)
      | else-is_other w ↦ elim w.else-is_other.branch [ else-is_other-via-then-is_other+else-keeps w' ↦ grind (arith, common_steps, walk) | else-is_other-via-else-is_other w' ↦ grind (arith, common_steps, walk) ]
    ]
