-- A search of a record's words, which has come to the one at `place`.
use mathlib.Core.Path.{◌≡◌}
use mathlib.Core.Bool.{true, false}
use mathlib.Core.List.{List}
use Prim.Native.Nat.{ℕ, ◌+◌, ◌≤◌, ◌<◌}
use native.Mathlib.Nat.{zero-add}
use lib.ListN.{length, get_or, drop}
use Rattle.std.specs.Prelude.{Some, None}
use Rattle.refusals.specs.Conditions.{first_bad}
use Rattle.refusals.proofs.Conditions.{bad-here, bad-later, bad-past}
use Rattle.requests.specs.declared.Asked.{Asked}
use Rattle.records.specs.Checks.{bad_word}

pub here : (asked : Asked) (place : ℕ) (words : List ℕ) → place < length words → bad_word asked place (get_or words place 0) ≡ true
    → first_bad (bad_word asked) place (drop place words) ≡ Some place
here asked place words h is = simp zero-add at (bad-here (bad_word asked) 0 place words 0 h (rw (zero-add place) is))

pub later : (asked : Asked) (place : ℕ) (words : List ℕ) → place < length words → bad_word asked place (get_or words place 0) ≡ false
    → first_bad (bad_word asked) place (drop place words) ≡ first_bad (bad_word asked) (place + 1) (drop (place + 1) words)
later asked place words h is = simp zero-add at (bad-later (bad_word asked) 0 place words 0 h (rw (zero-add place) is))

pub past : (asked : Asked) (place : ℕ) (words : List ℕ) → length words ≤ place → first_bad (bad_word asked) place (drop place words) ≡ None
past asked place words = bad-past (bad_word asked) place place words

pub ruleset bad_steps = (here, later, past)
