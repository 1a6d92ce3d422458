-- Document 01's conditions for refusing a record, a file and a reader, each with its number and by itself, in their order. That a check
-- refuses with N exactly when N's condition is the first that holds is claimed in `Claims.antt`.
use Rattle.std.specs.Prelude.{ℕ, ◌/◌, ◌%◌, Bool, not, ◌&&◌, ◌||◌, List, [], ◌∷◌, ◌++◌, leb, ltb, eqb, length}
use Rattle.refusals.specs.Conditions.{some, marked}
use Rattle.requests.specs.declared.Asked.TheVariants.{Finite, InRange}
use Rattle.requests.specs.Checks.{bad_fallback}
use Rattle.records.specs.declared.Record.{Record}
use Rattle.records.specs.Record.{most_agents, margin_word, distance_word, word_at, fallback_of}
use Rattle.records.specs.Checks.{bad_word}
use Rattle.records.specs.File.{record_bytes, records_of}
use Rattle.records.specs.Reader.{record_at}

-- margin word not 0 or 1, or margin 0 with word 18 not all zero
unfoldable pub margin_wrong : Record → Bool
margin_wrong r =
    not (eqb (word_at r margin_word) 0 || eqb (word_at r margin_word) 1) || (eqb (word_at r margin_word) 0 && not (eqb (word_at r distance_word) 0))

unfoldable pub record_conditions : Record → List (ℕ × Bool)
record_conditions r =
    (15, margin_wrong r)
    ∷ (3, some (marked (bad_word Finite) 0 r.words))
    ∷ (4, some (marked (bad_word InRange) 0 r.words))
    ∷ (5, bad_fallback (fallback_of r))
    ∷ []

-- one record after another: the first bad one decides
unfoldable pub records_conditions : List Record → List (ℕ × Bool)
records_conditions [] = []
records_conditions (r ∷ rs) = record_conditions r ++ records_conditions rs

unfoldable pub wrong_file : List ℕ → Bool
wrong_file file = not (eqb (length file % record_bytes) 0) || ltb most_agents (length file / record_bytes)

unfoldable pub file_conditions : List ℕ → List (ℕ × Bool)
file_conditions file = (14, wrong_file file) ∷ records_conditions (records_of file)

-- a reader over a file, at an index
unfoldable pub reader_conditions : List ℕ → ℕ → List (ℕ × Bool)
reader_conditions file index = (14, wrong_file file) ∷ (8, leb (length file / record_bytes) index) ∷ record_conditions (record_at file index)
