use mathlib.Core.Path.{◌≡◌}
use lib.ListN.{length}
use Rattle.requests.specs.Checks.{full_scratch}
use Rattle.flight.specs.Tick.{first_planned}
use Rattle.flight.proofs.all_planned.Given as goal

abbrev pub invariant-loop-index : goal.invariant-loop-index
invariant-loop-index l = (length l.scratch ≡ full_scratch) × (l.last ≡ first_planned l.index-counter l.fn.opened)
