use mathlib.Core.Path.{◌≡◌}
use Prim.Native.Nat.{◌+◌}
use lib.ListN.{drop}
use Rattle.refusals.specs.Conditions.{first_bad}
use Rattle.requests.specs.Checks.{bad_number}
use Rattle.requests.proofs.checks.first_bad.Given as goal

abbrev pub invariant-loop-index : goal.invariant-loop-index
invariant-loop-index l = first_bad (bad_number l.asked) (l.start + l.index) (drop l.index l.numbers) ≡ first_bad (bad_number l.asked) l.start l.numbers
