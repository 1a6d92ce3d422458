-- A file that passed is decoded as its records, of which there are at most 64, and a reader hands out those very records.
use mathlib.Core.Path.{◌≡◌, refl, sym, ap, ◌∙◌}
use mathlib.Core.List.{List}
use Prim.Native.Nat.{ℕ, ◌+◌, ◌*◌, ◌/◌, ◌≤◌, ◌<◌}
use native.Mathlib.Nat.{zero-add}
use native.Mathlib.Omega.{arith}
use borrow.Author.Tests.{lt-ltb}
use lib.ListN.{length, get_or, drop}
use Rattle.std.specs.Prelude.{Ok, Err}
use Rattle.arrayvec.specs.ArrayVec.{ArrayVec}
use Rattle.refusals.specs.declared.Refusal.{Refusal}
use Rattle.refusals.specs.Verdict.{Verdict, passed, settled_by}
use Rattle.refusals.proofs.Verdicts.{both-passed}
use Rattle.records.specs.declared.Record.{Record}
use Rattle.records.specs.Record.{most_agents, per_record, blank}
use Rattle.records.specs.Checks.{record_verdict}
use Rattle.records.specs.File.{record_bytes, word_in, record_in, records_of, whole_file, records_verdict, file_verdict, decoded_as, decoded}
use Rattle.records.specs.Reader.{record_at, stored_verdict, handed_at}
use Rattle.records.specs.Claims.{ReaderDecoded}
use Rattle.records.proofs.Parts.{parts-length, part_at}
use Rattle.records.proofs.Within.{whole-passed}
use Rattle.records.proofs.Passed.{place-free, each-passed}

-- ---- what a file is decoded as

pub decoded-is : (file : List ℕ) → file_verdict file ≡ passed → decoded file ≡ decoded_as (records_of file)
unfolding decoded
decoded-is file e = rw e

-- where it has records, the checks passed, and they are the file's
pub decoded-passed : (file : List ℕ) (records : ArrayVec Record) → decoded file ≡ Ok records → (file_verdict file ≡ passed) × (records.items ≡ records_of file)
unfolding decoded
decoded-passed file records = go (file_verdict file)
  where
    go : (v : Verdict) → settled_by v Err (decoded_as (records_of file)) ≡ Ok records → (v ≡ passed) × (records.items ≡ records_of file)
    go (Ok _) e = (refl, let same : record { items = records_of file } ≡ records = cc in ap (λ (rs : ArrayVec Record). rs.items) (sym same))
    go (Err why) e = absurd cc

-- and where it is refused, so do the checks
pub decoded-refused : (file : List ℕ) (why : Refusal) → decoded file ≡ Err why → file_verdict file ≡ Err why
unfolding decoded
decoded-refused file why = go (file_verdict file)
  where
    go : (v : Verdict) → settled_by v Err (decoded_as (records_of file)) ≡ Err why → v ≡ Err why
    go (Ok _) e = absurd cc
    go (Err r) e = let same : r ≡ why = cc in ap (λ (refusal : Refusal). Err refusal) same

-- ---- what a file that passed holds

both : (file : List ℕ) → file_verdict file ≡ passed → (whole_file (length file) ≡ passed) × (records_verdict 0 (records_of file) ≡ passed)
unfolding file_verdict
both file e = both-passed (whole_file (length file)) (records_verdict 0 (records_of file)) e

pub few-records : (file : List ℕ) → file_verdict file ≡ passed → length (records_of file) ≤ most_agents
few-records file e = omega (arith, parts-length record_bytes record_in (length file / record_bytes) file, whole-passed (length file) (both file e).0)

-- the record at an index is that of its bytes
record_is : (file : List ℕ) (k : ℕ) → k < length (records_of file) → get_or (records_of file) k blank ≡ record_at file k
record_is file k h =
    let n = length file / record_bytes in
    part_at record_bytes record_in n k file blank (omega (arith, parts-length record_bytes record_in n file))

-- so it has as many words as a record has
pub record-words : (file : List ℕ) (k : ℕ) → k < length (records_of file) → length (get_or (records_of file) k blank).words ≡ per_record
unfolding record_in
record-words file k h = ap (λ (r : Record). length r.words) (record_is file k h) ∙ parts-length 4 word_in per_record (drop (record_bytes * k) file)

-- and passes by itself
pub record-passes : (file : List ℕ) (k : ℕ) → file_verdict file ≡ passed → k < length (records_of file) → record_verdict 0 (get_or (records_of file) k blank) ≡ passed
record-passes file k e h = place-free (0 + per_record * k) (get_or (records_of file) k blank) (each-passed 0 (records_of file) k (both file e).1 h)

-- a reader hands out the very record that the file is decoded as at that index
pub reader-decoded : ReaderDecoded
unfolding handed_at stored_verdict
reader-decoded file k e h =
    let n = length file / record_bytes in
    let there : k < n = omega (arith, parts-length record_bytes record_in n file) in
    let here = record_is file k h in
    let own : record_verdict (per_record * k) (record_at file k) ≡ passed = simp (zero-add, here) at (each-passed 0 (records_of file) k (both file e).1 h) in
    simp ((both file e).0, lt-ltb k n there, own, here)
