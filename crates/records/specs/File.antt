-- The fleet file: records of 76 bytes, each word little-endian, no header.
use Rattle.std.specs.Prelude.{ℕ, zero, suc, ◌+◌, ◌*◌, ◌/◌, ◌%◌, ◌&&◌, cond, List, [], ◌∷◌, ◌++◌, leb, ltb, eqb, length, get_or, take, drop, Result, Ok, Err}
use Rattle.arrayvec.specs.ArrayVec.{ArrayVec}
use Rattle.refusals.specs.declared.Refusal.{Refusal}
use Rattle.refusals.specs.declared.Refusal.TheVariants.{BadFile}
use Rattle.refusals.specs.Verdict.{Verdict, passed, ◌⊳◌, settled_by}
use Rattle.records.specs.declared.Record.{Record}
use Rattle.records.specs.Record.{most_agents, per_record}
use Rattle.records.specs.Checks.{record_verdict}

-- the bytes of a record
abbrev pub record_bytes : ℕ
record_bytes = 76

-- ---- bytes as records

-- the word in the first four bytes of a list, the least of them first
unfoldable pub word_in : List ℕ → ℕ
word_in bytes = get_or bytes 0 0 + 256 * get_or bytes 1 0 + 65536 * get_or bytes 2 0 + 16777216 * get_or bytes 3 0

-- so many parts of a list of bytes, each of the same size, read one after another
unfoldable pub parts_in : {A : Type 0} → ℕ → (List ℕ → A) → ℕ → List ℕ → List A
parts_in size read zero bytes = []
parts_in size read (suc n) bytes = read bytes ∷ parts_in size read n (drop size bytes)

abbrev pub words_in : ℕ → List ℕ → List ℕ
words_in n bytes = parts_in 4 word_in n bytes

unfoldable pub record_in : List ℕ → Record
record_in bytes = record { words = words_in per_record bytes }

abbrev pub records_in : ℕ → List ℕ → List Record
records_in n bytes = parts_in record_bytes record_in n bytes

abbrev pub records_of : List ℕ → List Record
records_of file = records_in (length file / record_bytes) file

-- ---- checks

-- a multiple of 76 bytes, and at most 64 records
unfoldable pub whole_file : ℕ → Verdict
whole_file bytes = cond (eqb (bytes % record_bytes) 0 && leb (bytes / record_bytes) most_agents) passed (Err (BadFile bytes))

-- the first bad record decides; word 0 of the first one is at the place `start`
unfoldable pub records_verdict : ℕ → List Record → Verdict
records_verdict start [] = passed
records_verdict start (r ∷ rs) = record_verdict start r ⊳ records_verdict (start + per_record) rs

unfoldable pub file_verdict : List ℕ → Verdict
file_verdict file = whole_file (length file) ⊳ records_verdict 0 (records_of file)

-- ---- what a file holds

-- its records, or why it is refused
abbrev pub Decoded : Type 0
Decoded = Result (ArrayVec Record) Refusal

abbrev pub decoded_as : List Record → Decoded
decoded_as rs = Ok (record { items = rs })

unfoldable pub decoded_records : List ℕ → Decoded
decoded_records file = settled_by (records_verdict 0 (records_of file)) Err (decoded_as (records_of file))

unfoldable pub decoded : List ℕ → Decoded
decoded file = settled_by (file_verdict file) Err (decoded_as (records_of file))

-- ---- records as bytes

-- the four bytes of a word, the least of them first
unfoldable pub bytes_of_word : ℕ → List ℕ
bytes_of_word word = word % 256 ∷ word / 256 % 256 ∷ word / 65536 % 256 ∷ word / 16777216 % 256 ∷ []

-- the bytes of parts, one after another
unfoldable pub bytes_of_parts : {A : Type 0} → (A → List ℕ) → List A → List ℕ
bytes_of_parts write [] = []
bytes_of_parts write (part ∷ parts) = write part ++ bytes_of_parts write parts

abbrev pub bytes_of_words : List ℕ → List ℕ
bytes_of_words words = bytes_of_parts bytes_of_word words

-- a record's bytes
unfoldable pub bytes_of : Record → List ℕ
bytes_of r = bytes_of_words r.words

-- a file's bytes
abbrev pub file_of : List Record → List ℕ
file_of rs = bytes_of_parts bytes_of rs

-- bytes with a record written at an index among records of 76 bytes: as they were, where they have no room for one there
unfoldable pub with_record : List ℕ → ℕ → Record → List ℕ
with_record bytes index r =
    cond (ltb index (length bytes / record_bytes)) (take (record_bytes * index) bytes ++ (bytes_of r ++ drop (record_bytes * index + record_bytes) bytes)) bytes
