use Rattle.std.proofs.Common.{◌≡◌, drop}
use Rattle.spacing.specs.Tally.{within_reach}
use Rattle.spacing.proofs.tallies.within_reach.Given as goal

abbrev pub invariant-loop-place : goal.invariant-loop-place
invariant-loop-place l = within_reach l.place (drop l.place l.frame) ≡ within_reach 0 l.frame
