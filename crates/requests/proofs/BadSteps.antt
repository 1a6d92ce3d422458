-- A search of a call's numbers, which has come to the one at `index`; and of two lists joined it is one search after the other.
use mathlib.Core.Path.{◌≡◌}
use mathlib.Core.Bool.{true, false}
use mathlib.Core.List.{List}
use Prim.Native.Nat.{ℕ, ◌+◌, ◌≤◌, ◌<◌}
use lib.Ieee.{Float, nan}
use lib.ListN.{length, get_or, drop}
use Rattle.std.specs.Prelude.{Some, None}
use Rattle.refusals.specs.Conditions.{first_bad}
use Rattle.refusals.proofs.Conditions.{or_else, bad-append, bad-here, bad-later, bad-past}
use Rattle.requests.specs.declared.Request.{Request}
use Rattle.requests.specs.declared.Asked.{Asked}
use Rattle.requests.specs.Checks.{bad_number, first_of}
use Rattle.requests.specs.Request.{request_numbers}

pub here : (asked : Asked) (start index : ℕ) (xs : List Float) → index < length xs → bad_number asked (start + index) (get_or xs index nan) ≡ true
    → first_bad (bad_number asked) (start + index) (drop index xs) ≡ Some (start + index)
here asked start index xs = bad-here (bad_number asked) start index xs nan

pub later : (asked : Asked) (start index : ℕ) (xs : List Float) → index < length xs → bad_number asked (start + index) (get_or xs index nan) ≡ false
    → first_bad (bad_number asked) (start + index) (drop index xs) ≡ first_bad (bad_number asked) (start + (index + 1)) (drop (index + 1) xs)
later asked start index xs = bad-later (bad_number asked) start index xs nan

pub past : (asked : Asked) (place index : ℕ) (xs : List Float) → length xs ≤ index → first_bad (bad_number asked) place (drop index xs) ≡ None
past asked place index xs = bad-past (bad_number asked) place index xs

pub ruleset bad_steps = (here, later, past)

pub in_parts : (asked : Asked) (request : Request) (neighbours : List Float)
    → first_of asked request neighbours ≡ or_else (first_bad (bad_number asked) 0 (request_numbers request)) (first_bad (bad_number asked) 17 neighbours)
unfolding first_of request_numbers
in_parts asked request neighbours = bad-append (bad_number asked) 0 (request_numbers request) neighbours
