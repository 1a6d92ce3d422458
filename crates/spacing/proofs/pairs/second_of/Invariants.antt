use Rattle.std.proofs.Common.{◌≡◌, suc}
use Rattle.spacing.specs.parts.Spots.{squares_from}
use Rattle.spacing.specs.parts.Pairs.{second_of}
use Rattle.spacing.proofs.pairs.second_of.Given as goal

abbrev pub invariant-loop-second : goal.invariant-loop-second
invariant-loop-second l =
    second_of l.least l.second (squares_from l.spots l.first l.second)
    ≡ second_of l.least (suc l.first) (squares_from l.spots l.first (suc l.first))
