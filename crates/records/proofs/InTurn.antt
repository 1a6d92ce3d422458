-- The records of a file, read and checked one after another: what is left to check has the verdict of them all.
use mathlib.Core.Path.{◌≡◌, refl, sym, ap, ◌∙◌}
use mathlib.Core.List.{List, [], ◌∷◌, ◌++◌}
use Prim.Native.Nat.{ℕ, ◌+◌, ◌-◌, ◌*◌, ◌/◌, ◌<◌, ◌≤◌}
use native.Mathlib.Numerals.{add-one}
use native.Mathlib.Omega.{arith}
use lib.ListN.{length, drop}
use Rattle.std.specs.Prelude.{Ok}
use Rattle.arrayvec.specs.ArrayVec.{ArrayVec}
use Rattle.refusals.specs.Verdict.{Verdict, passed, ◌⊳◌}
use Rattle.records.specs.declared.Record.{Record}
use Rattle.records.specs.Checks.{record_verdict}
use Rattle.records.specs.File.{record_in, records_in, records_of, parts_in, records_verdict, decoded_records}
use Rattle.records.proofs.Parts.{parts_next, parts_more}

-- the verdict on the records from `index` on, of so many
pub left : List ℕ → ℕ → ℕ → Verdict
left file count index = records_verdict (19 * index) (records_in (count - index) (drop (76 * index) file))

-- the records before `index`
pub read : List ℕ → ℕ → List Record
read file index = records_in index file

pub all_left : (file : List ℕ) → left file (length file / 76) 0 ≡ records_verdict 0 (records_of file)
unfolding left
all_left file = let all : length file / 76 - 0 ≡ length file / 76 = omega arith in ap (λ (n : ℕ). records_verdict 0 (records_in n file)) all

pub one_more : (file : List ℕ) (count index : ℕ) → index < count
    → left file count index ≡ record_verdict (19 * index) (record_in (drop (76 * index) file)) ⊳ left file count (index + 1)
unfolding left records_verdict
one_more file count index h =
    let next : 19 * index + 19 ≡ 19 * (index + 1) = omega arith in
    rw (parts_next 76 record_in count index file h, next)

pub none_left : (file : List ℕ) (count index : ℕ) → count ≤ index → left file count index ≡ passed
unfolding left records_verdict parts_in
none_left file count index h = let none : count - index ≡ 0 = omega arith in rw none

pub none_read : (file : List ℕ) → read file 0 ≡ []
unfolding read parts_in
none_read file = refl

pub one_read : (file : List ℕ) (index : ℕ) → read file (index + 1) ≡ read file index ++ (record_in (drop (76 * index) file) ∷ [])
unfolding read
one_read file index = ap (λ (n : ℕ). records_in n file) (add-one index) ∙ parts_more 76 record_in index file

-- all passed, and all have been read
pub all_read : (file : List ℕ) (index : ℕ) (records : ArrayVec Record) → index ≡ length file / 76 → records.items ≡ read file index
    → left file (length file / 76) index ≡ records_verdict 0 (records_of file) → Ok records ≡ decoded_records file
unfolding decoded_records read
all_read file index records all so_far to_come =
    let passes : records_verdict 0 (records_of file) ≡ passed = sym to_come ∙ none_left file (length file / 76) index (omega arith) in
    let same : records ≡ record { items = records_of file } = ap (λ (rs : List Record). record { items = rs }) (so_far ∙ ap (λ (n : ℕ). records_in n file) all) in
    rw (passes, same)

pub ruleset in_turn = (all_left, one_more, none_left, none_read, one_read)
