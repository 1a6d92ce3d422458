-- The measure is the bytes that can still be counted.
use Rattle.std.proofs.Common.{◌-◌}
use Rattle.replay.proofs.make_calls.Given as goal

abbrev pub decreases-loop-at : goal.decreases-loop-at
decreases-loop-at g l = 18446744073709551615 - l.at
