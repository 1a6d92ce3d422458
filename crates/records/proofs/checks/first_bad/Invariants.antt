use mathlib.Core.Path.{◌≡◌}
use lib.ListN.{drop}
use Rattle.refusals.specs.Conditions.{first_bad}
use Rattle.records.specs.Checks.{bad_word}
use Rattle.records.proofs.checks.first_bad.Given as goal

abbrev pub invariant-loop-place : goal.invariant-loop-place
invariant-loop-place l = first_bad (bad_word l.asked) l.place (drop l.place l.word-items) ≡ first_bad (bad_word l.asked) 0 l.word-items
