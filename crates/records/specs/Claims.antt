-- What is proved of the definitions, each statement under its name. The proofs are in `proofs/`.
use Rattle.std.specs.Prelude.{ℕ, ◌*◌, ◌+◌, ◌%◌, ◌^◌, ◌≤◌, ◌<◌, ◌≡◌, Bool, true, false, List, [], ◌∷◌, ◌++◌, ◌↔◌, length, get_or, take, Ok, Err}
use Rattle.vectors.specs.declared.Vec3.{Vec3}
use Rattle.vectors.specs.Number.{finite}
use Rattle.vectors.specs.Vec3.{finite_vec, IsBinary32}
use Rattle.refusals.specs.declared.Refusal.{Refusal}
use Rattle.refusals.specs.Refusal.{number, place_of}
use Rattle.refusals.specs.Verdict.{Verdict, passed}
use Rattle.refusals.specs.Conditions.{First, some, Lowest}
use Rattle.requests.specs.declared.Asked.TheVariants.{Finite, InRange}
use Rattle.requests.specs.Checks.{outside, bad_fallback}
use Rattle.records.specs.declared.Record.{Record}
use Rattle.records.specs.Record.{per_record, fallback_word, margin_word, distance_word, blank, word_at, number_at, fallback_of, with_goal, moved_to}
use Rattle.records.specs.Checks.{word_kind, bad_word, record_verdict}
use Rattle.records.specs.File.{record_bytes, word_in, record_in, records_of, file_verdict, bytes_of_word, bytes_of, file_of}
use Rattle.records.specs.Reader.{record_at, stored_verdict, handed_at}
use Rattle.records.specs.Conditions.{record_conditions, file_conditions, reader_conditions}

-- ---- refused exactly when

-- the number that checks refuse with, and 0 where they pass
abbrev pub number_of : Verdict → ℕ
number_of (Ok _) = 0
number_of (Err why) = number why

-- checks refuse with n exactly when n's condition is the first that holds, and pass exactly when none holds
pub record Exactly (checks : Verdict) (conditions : List (ℕ × Bool)) : Type 0 where
  pub refused : (n : ℕ) → 0 < n → (number_of checks ≡ n) ↔ First n conditions
  pub passed : (number_of checks ≡ 0) ↔ (some conditions ≡ false)

-- A record is refused with 15, 3, 4 or 5 exactly when that number's condition is the first that holds, wherever its words stand in a file.
abbrev pub RecordExactly : Type 0
RecordExactly = (start : ℕ) (r : Record) → Exactly (record_verdict start r) (record_conditions r)

-- A file is refused with 14, or as one of its records is, exactly when that number's condition is the first that holds: 14's, and then those of one record after another.
abbrev pub FileExactly : Type 0
FileExactly = (file : List ℕ) → Exactly (file_verdict file) (file_conditions file)

-- A reader at an index refuses with 14, 8, or as that record is refused, exactly when that number's condition is the first that holds.
abbrev pub ReaderExactly : Type 0
ReaderExactly = (file : List ℕ) (index : ℕ) → Exactly (stored_verdict file index) (reader_conditions file index)

-- ---- places

-- the place of each refusal of a record whose word 0 is at the place `start`
pub data PlacedRecord (start : ℕ) (r : Record) : (number place : ℕ) → Type 0 where
  -- 15: word 17 is not 0 or 1, or it is 0 and word 18 is not all zero
  bad-margin : 1 < word_at r margin_word → PlacedRecord start r 15 (start + margin_word)
  bad-distance : word_at r margin_word ≡ 0 → (word_at r distance_word ≡ 0 → ⊥) → PlacedRecord start r 15 (start + distance_word)
  -- 3 and 4: the lowest word that is bad
  not_finite : (word : ℕ) → Lowest (bad_word Finite) 0 r.words 0 word → PlacedRecord start r 3 (start + word)
  out_of_range : (word : ℕ) → Lowest (bad_word InRange) 0 r.words 0 word → PlacedRecord start r 4 (start + word)
  -- 5: the fallback's first word
  bad-fallback : PlacedRecord start r 5 (start + fallback_word)

-- The place of a record's refusal is its bad word's number: 17 or 18 for 15, the lowest for 3 and 4, 13 for 5.
abbrev pub RecordPlaces : Type 0
RecordPlaces = (start : ℕ) (r : Record) (why : Refusal) → record_verdict start r ≡ Err why → PlacedRecord start r (number why) (place_of why)

-- the first bad record decides: those before it have no fault, the number is that of its own first fault, and the place is its word's, plus 19 for each record before it
pub record FirstBadRecord (rs : List Record) (number place : ℕ) : Type 0 where
  pub index : ℕ
  pub within : index < length rs
  pub none_before : (i : ℕ) → i < index → some (record_conditions (get_or rs i blank)) ≡ false
  pub own : First number (record_conditions (get_or rs index blank))
  pub placed : PlacedRecord (per_record * index) (get_or rs index blank) number place

pub data PlacedFile (file : List ℕ) : (number place : ℕ) → Type 0 where
  wrong-file : PlacedFile file 14 (length file)
  in-record : (number place : ℕ) → FirstBadRecord (records_of file) number place → PlacedFile file number place

-- The place of a file's refusal is its length in bytes for 14; else it is that of the first bad record.
abbrev pub FilePlaces : Type 0
FilePlaces = (file : List ℕ) (why : Refusal) → file_verdict file ≡ Err why → PlacedFile file (number why) (place_of why)

pub data PlacedStored (file : List ℕ) (index : ℕ) : (number place : ℕ) → Type 0 where
  wrong-file : PlacedStored file index 14 (length file)
  no_record : PlacedStored file index 8 index
  in-record : (number place : ℕ) → PlacedRecord (per_record * index) (record_at file index) number place → PlacedStored file index number place

-- The place of a reader's refusal is the file's length in bytes for 14, the index for 8, and else that of its record, as in the whole file.
abbrev pub ReaderPlaces : Type 0
ReaderPlaces = (file : List ℕ) (index : ℕ) (why : Refusal) → stored_verdict file index ≡ Err why → PlacedStored file index (number why) (place_of why)

-- ---- a record that passed

-- Every number of a record that passed is finite; the margin word is no number.
abbrev pub PassedFinite : Type 0
PassedFinite =
    (r : Record) → record_verdict 0 r ≡ passed → length r.words ≡ per_record
    → (place : ℕ) → place < per_record → (place ≡ margin_word → ⊥) → finite (number_at r place) ≡ true

-- Each of its numbers is in its range.
abbrev pub PassedKind : Type 0
PassedKind =
    (r : Record) → record_verdict 0 r ≡ passed → length r.words ≡ per_record
    → (place : ℕ) → place < per_record → outside (word_kind place) (number_at r place) ≡ false

-- Its fallback is a direction.
abbrev pub PassedFallback : Type 0
PassedFallback = (r : Record) → record_verdict 0 r ≡ passed → bad_fallback (fallback_of r) ≡ false

-- It still passes with another goal that is finite.
abbrev pub GoalPasses : Type 0
GoalPasses =
    (r : Record) (goal : Vec3) → record_verdict 0 r ≡ passed → finite_vec goal ≡ true → IsBinary32 goal → record_verdict 0 (with_goal goal r) ≡ passed

-- It still passes at another position and with another velocity that are finite.
abbrev pub MovedPasses : Type 0
MovedPasses =
    (r : Record) (position velocity : Vec3) → record_verdict 0 r ≡ passed
    → finite_vec position ≡ true → IsBinary32 position → finite_vec velocity ≡ true → IsBinary32 velocity
    → record_verdict 0 (moved_to r position velocity) ≡ passed

-- ---- encoding and decoding undo each other

-- something holds of each element of a list
abbrev pub Each : {A : Type 0} → (A → Type 0) → List A → Type 0
Each P [] = Unit {0}
Each P (x ∷ xs) = P x × Each P xs

abbrev pub Below : ℕ → List ℕ → Type 0
Below bound xs = Each (λ (x : ℕ). x < bound) xs

-- what the type of a record says: it has 19 words of 32 bits
abbrev pub WholeRecord : Record → Type 0
WholeRecord r = (length r.words ≡ per_record) × Below (2 ^ 32) r.words

-- A word is read back from its four bytes, whatever stands after them.
abbrev pub WordBack : Type 0
WordBack = (word : ℕ) (rest : List ℕ) → word < 2 ^ 32 → word_in (bytes_of_word word ++ rest) ≡ word

-- Four bytes are those of the word that is read from them.
abbrev pub BytesBack : Type 0
BytesBack =
    (a b c d : ℕ) (rest : List ℕ) → a < 256 → b < 256 → c < 256 → d < 256
    → bytes_of_word (word_in (a ∷ b ∷ c ∷ d ∷ rest)) ≡ a ∷ b ∷ c ∷ d ∷ []

-- A record is read back from its bytes, whatever stands after them.
abbrev pub RecordBack : Type 0
RecordBack = (r : Record) (rest : List ℕ) → WholeRecord r → record_in (bytes_of r ++ rest) ≡ r

-- The 76 bytes that a record is read from are its own.
abbrev pub BytesOfRecord : Type 0
BytesOfRecord = (bytes : List ℕ) → record_bytes ≤ length bytes → Below 256 bytes → bytes_of (record_in bytes) ≡ take record_bytes bytes

-- Records are read back from their file.
abbrev pub FileBack : Type 0
FileBack = (rs : List Record) → Each WholeRecord rs → records_of (file_of rs) ≡ rs

-- A file of whole records is the file of the records that are read from it.
abbrev pub BytesOfFile : Type 0
BytesOfFile = (file : List ℕ) → length file % record_bytes ≡ 0 → Below 256 file → file_of (records_of file) ≡ file

-- ---- a reader

-- Of a file that passes, a reader hands out the record that stands at that index.
abbrev pub ReaderDecoded : Type 0
ReaderDecoded =
    (file : List ℕ) (index : ℕ) → file_verdict file ≡ passed → index < length (records_of file)
    → handed_at file index ≡ Ok (get_or (records_of file) index blank)
