use mathlib.Core.Path.{◌≡◌}
use mathlib.Core.Bool.{true}
use Prim.Native.Nat.{ℕ, ◌+◌}
use lib.ListN.{drop}
use Rattle.requests.specs.declared.Asked.TheVariants.{Finite}
use Rattle.refusals.specs.Conditions.{first_bad}
use Rattle.requests.specs.Checks.{bad_number}
use Rattle.requests.proofs.checks.all_finite.Given as goal

abbrev pub invariant-loop-x : goal.invariant-loop-x
invariant-loop-x l = (start : ℕ) → l.all ≡ true → first_bad (bad_number Finite) (start + l.x-index) (drop l.x-index l.numbers) ≡ first_bad (bad_number Finite) start l.numbers
