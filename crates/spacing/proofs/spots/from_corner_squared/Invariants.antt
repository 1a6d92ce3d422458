use Rattle.std.proofs.Common.{◌≡◌, length}
use Rattle.spacing.specs.parts.Frame.{Squares}
use Rattle.spacing.proofs.spots.from_corner_squared.Given as goal

abbrev pub invariant-loop-agent : goal.invariant-loop-agent
invariant-loop-agent l = (length l.squares ≡ 64) × Squares l.agent l.xs l.ys l.zs l.squares
