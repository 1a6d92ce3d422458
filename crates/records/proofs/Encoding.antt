-- Encoding undoes decoding, and decoding undoes encoding: of a word, of a record and of a file.
-- word_back: a word is read back from its four bytes. bytes_back: four bytes are those of their word.
-- record-back: a record is read back from its bytes. bytes-of-record: the 76 bytes that a record is read from are its own.
-- file-back: records are read back from their file. bytes-of-file: a file of whole records is the file of its records.
-- record-length, file-length, whole_length: a record has 76 bytes, and a file has as many for each.
-- bytes-more, words-length: the bytes of one part more, and of words there are four for each.
-- file-passes: records that each pass are a file that does. passed-again: a file that passed is the file of its records.
-- written: a buffer with some words' bytes. words-none, words-more, words-all: none, a word written after those before it, and all of a record's.
-- file-none, file-more: no records have no bytes, and a record written after those before it is one record more.
use mathlib.Core.Path.{◌≡◌, refl, sym, ap, ap₂, ◌∙◌}
use mathlib.Core.List.{List, [], ◌∷◌, ◌++◌, append_assoc, append-nil}
use Prim.Native.Nat.{ℕ, zero, suc, ◌+◌, ◌*◌, ◌/◌, ◌%◌, ◌^◌, ◌≤◌, ◌<◌}
use native.Mathlib.Nat.{not-suc-le-zero, le_of_suc-le-suc, mul-suc, mul-zero, add_comm}
use native.Mathlib.Numerals.{add-one}
use native.Mathlib.Omega.{arith}
use borrow.Author.Tests.{lt-ltb}
use lib.ListN.{length, get_or, take, drop, length-append, length-drop, take-append-drop}
use lib.Seq.{take_all, take-add, take_at, drop_at, drop-drop, length-take-le}
use Rattle.refusals.specs.Verdict.{Verdict, passed, ◌⊳◌}
use Rattle.refusals.proofs.Verdicts.{both-passed}
use Rattle.records.specs.declared.Record.{Record}
use Rattle.records.specs.Record.{most_agents, per_record, blank}
use Rattle.records.specs.Checks.{record_verdict}
use Rattle.records.specs.File.{record_bytes, word_in, parts_in, words_in, record_in, records_of, whole_file, records_verdict, file_verdict, bytes_of_word, bytes_of_parts, bytes_of_words, bytes_of, file_of, with_record}
use Rattle.records.specs.Claims.{Each, Below, WholeRecord, WordBack, BytesBack, RecordBack, BytesOfRecord, FileBack, BytesOfFile}
use Rattle.records.proofs.Within.{whole-passes, whole_multiple}
use Rattle.records.proofs.Passed.{all-passed}

-- ---- what holds of each element of a list

each_of : {A : Type 0} {P : A → Type 0} → ((a : A) → P a) → (xs : List A) → Each P xs
each_of holds [] = tt
each_of holds (x ∷ xs) = (holds x, each_of holds xs)

below-drop : (bound n : ℕ) (xs : List ℕ) → Below bound xs → Below bound (drop n xs)
below-drop bound zero xs below = below
below-drop bound (suc n) [] below = below
below-drop bound (suc n) (x ∷ xs) below = below-drop bound n xs below.1

-- ---- parts

-- the bytes of one part more
pub bytes-more : {A : Type 0} (write : A → List ℕ) (parts : List A) (i : ℕ) (d : A) → i < length parts
    → bytes_of_parts write (take (suc i) parts) ≡ bytes_of_parts write (take i parts) ++ write (get_or parts i d)
unfolding bytes_of_parts
bytes-more write [] i d h = absurd (not-suc-le-zero h)
bytes-more write (p ∷ ps) zero d h = append-nil (write p)
bytes-more write (p ∷ ps) (suc i) d h =
    ap (λ (bytes : List ℕ). write p ++ bytes) (bytes-more write ps i d (le_of_suc-le-suc h))
    ∙ sym (append_assoc (write p) (bytes_of_parts write (take i ps)) (write (get_or ps i d)))

module _ {A : Type 0} (size : ℕ) (write : A → List ℕ) (Fit : A → Type 0) (sized : (a : A) → Fit a → length (write a) ≡ size) where
  bytes-length : (parts : List A) → Each Fit parts → length (bytes_of_parts write parts) ≡ size * length parts
  unfolding bytes_of_parts
  bytes-length [] fit = sym (mul-zero size)
  bytes-length (p ∷ ps) fit =
      length-append (write p) (bytes_of_parts write ps)
      ∙ ap₂ (λ (m n : ℕ). m + n) (sized p fit.0) (bytes-length ps fit.1)
      ∙ add_comm size (size * length ps)
      ∙ sym (mul-suc size (length ps))

  -- where each part is read back from its bytes, so are they all
  parts-back : (read : List ℕ → A) → ((a : A) (rest : List ℕ) → Fit a → read (write a ++ rest) ≡ a)
      → (parts : List A) (rest : List ℕ) → Each Fit parts → parts_in size read (length parts) (bytes_of_parts write parts ++ rest) ≡ parts
  unfolding bytes_of_parts parts_in
  parts-back read back [] rest fit = refl
  parts-back read back (p ∷ ps) rest fit =
      let after = bytes_of_parts write ps ++ rest in
      ap (parts_in size read (suc (length ps))) (append_assoc (write p) (bytes_of_parts write ps) rest)
      ∙ ap₂ (λ (q : A) (qs : List A). q ∷ qs)
      (back p after fit.0)
      (ap (parts_in size read (length ps)) (drop_at (write p) after size (sized p fit.0)) ∙ parts-back read back ps rest fit.1)

-- where the bytes that a part is read from are its own, so are those of them all
parts_again : {A : Type 0} (size : ℕ) (read : List ℕ → A) (write : A → List ℕ)
    → ((bytes : List ℕ) → size ≤ length bytes → Below 256 bytes → write (read bytes) ≡ take size bytes)
    → (n : ℕ) (bytes : List ℕ) → size * n ≤ length bytes → Below 256 bytes → bytes_of_parts write (parts_in size read n bytes) ≡ take (size * n) bytes
unfolding bytes_of_parts parts_in
parts_again size read write again zero bytes room small = ap (λ (m : ℕ). take m bytes) (sym (mul-zero size))
parts_again size read write again (suc n) bytes room small =
    let next : size * suc n ≡ size + size * n = mul-suc size n ∙ add_comm (size * n) size in
    let left : size * n ≤ length (drop size bytes) = omega (arith, length-drop size bytes) in
    ap₂ (λ (xs ys : List ℕ). xs ++ ys)
    (again bytes (omega arith) small)
    (parts_again size read write again n (drop size bytes) left (below-drop 256 size bytes small))
    ∙ sym (take-add size (size * n) bytes)
    ∙ ap (λ (m : ℕ). take m bytes) (sym next)

-- ---- words

-- a quotient by a power of 256 is one by 256 again
quotients : (w : ℕ) → (w / 65536 ≡ w / 256 / 256) × (w / 16777216 ≡ w / 65536 / 256)
quotients w = (omega arith, omega arith)

pub word_back : WordBack
unfolding word_in bytes_of_word
word_back w rest h =
    let last : w / 16777216 / 256 ≡ 0 = omega arith in
    omega (arith, (quotients w).0, (quotients w).1)

pub bytes_back : BytesBack
unfolding word_in bytes_of_word
bytes_back a b c d rest ha hb hc hd =
    let w = a + 256 * b + 65536 * c + 16777216 * d in
    let from-b : w / 256 ≡ b + 256 * c + 65536 * d = omega arith in
    let from-c : w / 65536 ≡ c + 256 * d = omega arith in
    let from-d : w / 16777216 ≡ d = omega arith in
    let last : w / 16777216 / 256 ≡ 0 = omega arith in
    let is-a : w % 256 ≡ a = omega arith in
    let is_b : w / 256 % 256 ≡ b = omega (arith, (quotients w).0) in
    let is_c : w / 65536 % 256 ≡ c = omega (arith, (quotients w).1) in
    let is-d : w / 16777216 % 256 ≡ d = omega arith in
    rw (is-a, is_b, is_c, is-d)

bytes-of-word : (bytes : List ℕ) → 4 ≤ length bytes → Below 256 bytes → bytes_of_word (word_in bytes) ≡ take 4 bytes
bytes-of-word [] room small = absurd (omega arith)
bytes-of-word (a ∷ []) room small = absurd (omega arith)
bytes-of-word (a ∷ b ∷ []) room small = absurd (omega arith)
bytes-of-word (a ∷ b ∷ c ∷ []) room small = absurd (omega arith)
bytes-of-word (a ∷ b ∷ c ∷ d ∷ rest) room small = bytes_back a b c d rest small.0 small.1.0 small.1.1.0 small.1.1.1.0

word-length : (w : ℕ) → length (bytes_of_word w) ≡ 4
unfolding bytes_of_word
word-length w = refl

pub words-length : (words : List ℕ) → length (bytes_of_words words) ≡ 4 * length words
words-length words = bytes-length 4 bytes_of_word (λ (w : ℕ). length (bytes_of_word w) ≡ 4) (λ w h. h) words (each_of word-length words)

-- ---- records

pub record-length : (r : Record) → length r.words ≡ per_record → length (bytes_of r) ≡ record_bytes
unfolding bytes_of
record-length r all = omega (arith, words-length r.words)

pub record-back : RecordBack
unfolding record_in bytes_of
record-back r rest (all, small) =
    ap (λ (n : ℕ). record { words = words_in n (bytes_of_words r.words ++ rest) }) (sym all)
    ∙ ap (λ (words : List ℕ). record { words = words })
    (parts-back 4 bytes_of_word (λ (w : ℕ). w < 2 ^ 32) (λ w h. word-length w) word_in word_back r.words rest small)

pub bytes-of-record : BytesOfRecord
unfolding record_in bytes_of
bytes-of-record bytes room small = parts_again 4 word_in bytes_of_word bytes-of-word per_record bytes room small

-- ---- files

pub file-length : (rs : List Record) → Each (λ (r : Record). length r.words ≡ per_record) rs → length (file_of rs) ≡ record_bytes * length rs
file-length rs all = bytes-length record_bytes bytes_of (λ (r : Record). length r.words ≡ per_record) record-length rs all

sized : (r : Record) → WholeRecord r → length (bytes_of r) ≡ record_bytes
sized r h = record-length r h.0

pub whole_length : (rs : List Record) → Each WholeRecord rs → length (file_of rs) ≡ record_bytes * length rs
whole_length rs whole = bytes-length record_bytes bytes_of WholeRecord sized rs whole

pub file-back : FileBack
file-back rs whole =
    let many : length (file_of rs) / record_bytes ≡ length rs = omega (arith, whole_length rs whole) in
    ap₂ (parts_in record_bytes record_in) many (sym (append-nil (file_of rs)))
    ∙ parts-back record_bytes bytes_of WholeRecord sized record_in record-back rs [] whole

pub bytes-of-file : BytesOfFile
bytes-of-file file multiple small =
    let n = length file / record_bytes in
    parts_again record_bytes record_in bytes_of bytes-of-record n file (omega arith) small ∙ take_all (record_bytes * n) file (omega arith)

-- ---- files that pass

pub file-passes : (rs : List Record) → length rs ≤ most_agents → Each WholeRecord rs
    → ((k : ℕ) → k < length rs → record_verdict 0 (get_or rs k blank) ≡ passed) → file_verdict (file_of rs) ≡ passed
unfolding file_verdict
file-passes rs few whole passes =
    let long = whole_length rs whole in
    ap (λ (v : Verdict). v ⊳ records_verdict 0 (records_of (file_of rs))) (whole-passes (length (file_of rs)) (omega (arith, long)) (omega (arith, long)))
    ∙ ap (records_verdict 0) (file-back rs whole)
    ∙ all-passed 0 rs passes

pub passed-again : (file : List ℕ) → file_verdict file ≡ passed → Below 256 file → file_of (records_of file) ≡ file
unfolding file_verdict
passed-again file e small =
    bytes-of-file file (whole_multiple (length file) (both-passed (whole_file (length file)) (records_verdict 0 (records_of file)) e).0) small

-- ---- parts written into a buffer, one after another

-- a part of so many bytes, after what stands before it
written-after : (front own buffer : List ℕ) (n size : ℕ) → length front ≡ n
    → take n (front ++ drop n buffer) ++ (own ++ drop (n + size) (front ++ drop n buffer)) ≡ (front ++ own) ++ drop (n + size) buffer
written-after front own buffer n size long =
    let rest : drop (n + size) (front ++ drop n buffer) ≡ drop (n + size) buffer =
    sym (drop-drop size n (front ++ drop n buffer))
    ∙ ap (drop size) (drop_at front (drop n buffer) n long)
    ∙ drop-drop size n buffer in
    rw (take_at front (drop n buffer) n long, rest) (sym (append_assoc front own (drop (n + size) buffer)))

-- a buffer with the bytes of some words from `at` on
pub written : List ℕ → ℕ → List ℕ → List ℕ
written buffer at words = (take at buffer ++ bytes_of_words words) ++ drop (at + 4 * length words) buffer

pub words-none : (buffer : List ℕ) (at : ℕ) → written buffer at [] ≡ buffer
unfolding written bytes_of_parts
words-none buffer at = let none : at + 0 ≡ at = omega arith in rw (append-nil (take at buffer), none) (take-append-drop at buffer)

pub words-more : (buffer : List ℕ) (at : ℕ) (words : List ℕ) (i : ℕ) (now : List ℕ) → i < length words → at + 4 * length words ≤ length buffer → now ≡ written buffer at (take i words)
    → take (at + 4 * i) now ++ (bytes_of_word (get_or words i 0) ++ drop (at + 4 * i + 4) now) ≡ written buffer at (take (i + 1) words)
unfolding written
words-more buffer at words i now there room is =
    let bytes = bytes_of_words (take i words) in
    let word = bytes_of_word (get_or words i 0) in
    let front = take at buffer ++ bytes in
    let many = length-take-le i words (omega arith) in
    let long : length front ≡ at + 4 * i = length-append (take at buffer) bytes ∙ omega (arith, many, words-length (take i words), length-take-le at buffer (omega (arith, room))) in
    let last : at + 4 * i + 4 ≡ at + 4 * length (take (i + 1) words) = omega (arith, length-take-le (i + 1) words (omega arith)) in
    let more : bytes_of_words (take (i + 1) words) ≡ bytes ++ word = ap (λ (n : ℕ). bytes_of_words (take n words)) (add-one i) ∙ bytes-more bytes_of_word words i 0 there in
    rw (is, many) (written-after front word buffer (at + 4 * i) 4 long ∙ ap₂ (λ (xs : List ℕ) (n : ℕ). xs ++ drop n buffer) (append_assoc (take at buffer) bytes word ∙ ap (λ (xs : List ℕ). take at buffer ++ xs) (sym more)) last)

pub words-all : (buffer : List ℕ) (at : ℕ) (r : Record) (i : ℕ) → length r.words ≡ per_record → per_record ≤ i
    → written buffer at (take i r.words) ≡ take at buffer ++ (bytes_of r ++ drop (at + record_bytes) buffer)
unfolding written bytes_of
words-all buffer at r i all past =
    let last : at + 4 * length r.words ≡ at + record_bytes = omega arith in
    rw (take_all i r.words (omega arith), last) (append_assoc (take at buffer) (bytes_of_words r.words) (drop (at + record_bytes) buffer))

pub ruleset words_written = (words-none, words-more, words-all)

-- a file, from the start of a buffer on
pub file-none : file_of [] ≡ []
unfolding bytes_of_parts
file-none = refl

pub file-more : (rs : List Record) (i : ℕ) (d : Record) (buffer : List ℕ) → i < length rs → length (file_of (take i rs)) ≡ record_bytes * i
    → record_bytes * suc i ≤ length buffer
    → with_record (file_of (take i rs) ++ drop (record_bytes * i) buffer) i (get_or rs i d) ≡ file_of (take (suc i) rs) ++ drop (record_bytes * suc i) buffer
unfolding with_record
file-more rs i d buffer there sized room =
    let front = file_of (take i rs) in
    let back = drop (record_bytes * i) buffer in
    let long : length (front ++ back) ≡ length buffer = length-append front back ∙ omega (arith, length-drop (record_bytes * i) buffer, sized) in
    let next : record_bytes * i + record_bytes ≡ record_bytes * suc i = omega arith in
    rw (lt-ltb i (length (front ++ back) / record_bytes) (omega (arith, long)))
    (written-after front (bytes_of (get_or rs i d)) buffer (record_bytes * i) record_bytes sized
    ∙ ap₂ (λ (bytes : List ℕ) (n : ℕ). bytes ++ drop n buffer) (sym (bytes-more bytes_of rs i d there)) next)
