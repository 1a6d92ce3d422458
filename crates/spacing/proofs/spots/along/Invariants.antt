use Rattle.std.proofs.Common.{◌≡◌, length}
use Rattle.spacing.specs.parts.Frame.{Along, Near}
use Rattle.spacing.proofs.spots.along.Given as goal

abbrev pub invariant-loop-agent : goal.invariant-loop-agent
invariant-loop-agent l = (length l.places ≡ 64) × Along l.agent l.axis l.frame.numbers.now l.places × Near l.agent l.places
