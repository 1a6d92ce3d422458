-- A reader over a lent fleet file, which hands out one record at a time, by index.
use Rattle.std.specs.Prelude.{ℕ, ◌*◌, ◌/◌, List, length, drop, Result, Ok, Err}
use Rattle.std.specs.Borrow.{Bor}
use Rattle.refusals.specs.declared.Refusal.{Refusal}
use Rattle.refusals.specs.Verdict.{Verdict, ◌⊳◌, settled_by}
use Rattle.records.specs.declared.Record.{Record}
use Rattle.records.specs.declared.RecordReader.{RecordReader}
use Rattle.records.specs.Record.{per_record}
use Rattle.records.specs.Checks.{index_among, record_verdict}
use Rattle.records.specs.File.{record_bytes, record_in, whole_file}

-- a reader is its file, by reference, and an index
abbrev pub reader_at : Bor (List ℕ) → ℕ → RecordReader
reader_at file index = record { file = file; index = index }

-- the record at an index of a file
abbrev pub record_at : List ℕ → ℕ → Record
record_at file index = record_in (drop (record_bytes * index) file)

-- 14, then 8, then that record's checks, with places as in the whole file
unfoldable pub stored_verdict : List ℕ → ℕ → Verdict
stored_verdict file index =
    whole_file (length file)
    ⊳ index_among (length file / record_bytes) index
    ⊳ record_verdict (per_record * index) (record_at file index)

-- what a reader hands out: the record, or why it is refused
abbrev pub Handed : Type 0
Handed = Result Record Refusal

unfoldable pub handed_at : List ℕ → ℕ → Handed
handed_at file index = settled_by (stored_verdict file index) Err (Ok (record_at file index))
