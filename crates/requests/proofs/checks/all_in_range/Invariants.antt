use mathlib.Core.Path.{◌≡◌}
use mathlib.Core.Bool.{true}
use Prim.Native.Nat.{◌+◌, ◌*◌}
use lib.ListN.{drop}
use Rattle.requests.specs.declared.Asked.TheVariants.{InRange}
use Rattle.refusals.specs.Conditions.{first_bad}
use Rattle.requests.specs.Checks.{bad_number}
use Rattle.requests.proofs.checks.all_in_range.Given as goal

abbrev pub invariant-loop-index : goal.invariant-loop-index
invariant-loop-index l = l.all ≡ true → first_bad (bad_number InRange) (17 + 8 * l.index) (drop (8 * l.index) l.numbers) ≡ first_bad (bad_number InRange) 17 l.numbers
