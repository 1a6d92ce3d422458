use Rattle.std.proofs.Common.{◌≡◌, suc, ◌+◌, ◌≤◌}
use Rattle.spacing.specs.parts.Spots.{squares_from}
use Rattle.spacing.specs.parts.Pairs.{glanced}
use Rattle.spacing.proofs.pairs.glance_along.Given as goal

abbrev pub invariant-loop-second : goal.invariant-loop-second
invariant-loop-second l =
    (l.glance.below + suc l.first ≤ l.initial.glance.below + l.second)
    × (glanced l.limit l.glance (squares_from l.spots l.first l.second) ≡ glanced l.limit l.initial.glance (squares_from l.spots l.first (suc l.first)))
