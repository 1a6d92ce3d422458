-- Load of a well-formed file gives its words back by read, record by record, and a reader hands out the records that load stores.
--     load_read, load-read-word, reader-load, reader-read
use mathlib.Core.Path.{◌≡◌, sym, ap, ◌∙◌}
use mathlib.Core.List.{List}
use Prim.Native.Nat.{ℕ, ◌*◌, ◌/◌, ◌<◌}
use native.Mathlib.Omega.{arith}
use borrow.Author.Tests.{lt-ltb}
use lib.ListN.{length, get_or, drop}
use lib.Seq.{drop-drop}
use Rattle.std.specs.Prelude.{Ok}
use Rattle.fleet.specs.declared.Answer.TheVariants.{Done}
use Rattle.fleet.specs.declared.Fleet.{Fleet}
use Rattle.fleet.specs.declared.Called.{Called}
use Rattle.fleet.specs.declared.Read.{Read}
use Rattle.records.specs.Record.{blank, per_record}
use Rattle.records.specs.File.{record_bytes, word_in, record_in, records_of, file_verdict}
use Rattle.records.specs.declared.Record.{Record}
use Rattle.records.proofs.Decoding.{reader-decoded}
use Rattle.refusals.specs.Verdict.{◌⊳◌, passed}
use Rattle.refusals.proofs.Verdicts.{both-passed}
use Rattle.fleet.specs.Answer.{number}
use Rattle.fleet.specs.Table.{agents, holding_nothing, shut, has_agent, answer_to, read_call}
use Rattle.fleet.specs.Load.{load_verdict, loaded, load_call}
use Rattle.fleet.specs.Claims.{LoadRead, LoadReadWord, ReaderLoad, ReaderRead}
use Rattle.records.proofs.Parts.{parts-length, part_at, words-of-record}
use Rattle.fleet.proofs.Verdicts.{settled-passes, settled-done}

-- an accepted load hands back the fleet of the file
pub load-accepted : (fleet : Fleet) (file : List ℕ) → (load_call fleet file).answer ≡ Done → load_call fleet file ≡ record { answer = Done; fleet = loaded file }
unfolding load_call
load-accepted fleet file e = settled-done (load_verdict fleet.tick file) fleet (loaded file) e

-- its agents are the file's records
pub load-agents : (fleet : Fleet) (file : List ℕ) → (load_call fleet file).answer ≡ Done → agents (load_call fleet file).fleet ≡ records_of file
unfolding loaded holding_nothing
load-agents fleet file e = ap (λ (called : Called). agents called.fleet) (load-accepted fleet file e)

-- after an accepted load, a read of each record of the file is answered, with the words of its bytes
pub load_read : LoadRead
unfolding read_call has_agent answer_to
load_read fleet file k e h =
    let n = length file / record_bytes in
    let there : k < length (records_of file) = omega (arith, parts-length record_bytes record_in n file) in
    rw (load-agents fleet file e, lt-ltb k (length (records_of file)) there, part_at record_bytes record_in n k file blank h, words-of-record (drop (record_bytes * k) file))

-- word j of record k is in the four bytes from 76k + 4j on
pub load-read-word : LoadReadWord
load-read-word fleet file k j e h within =
    ap (λ (read : Read). get_or read.words j 0) (load_read fleet file k e h)
    ∙ part_at 4 word_in per_record j (drop (record_bytes * k) file) 0 within
    ∙ ap word_in (drop-drop (4 * j) (record_bytes * k) file)

-- ---- a reader over the same file

pub load-passed : (fleet : Fleet) (file : List ℕ) → (load_call fleet file).answer ≡ Done → file_verdict file ≡ passed
unfolding load_call load_verdict
load-passed fleet file e =
    (both-passed (shut fleet.tick) (file_verdict file) (settled-passes (shut fleet.tick ⊳ file_verdict file) fleet (loaded file) (ap number e))).1

-- a reader of a file that load accepts hands out the very record that load stores at that index
pub reader-load : ReaderLoad
reader-load fleet file k e h =
    let there : k < length (records_of file) = omega (arith, parts-length record_bytes record_in (length file / record_bytes) file) in
    reader-decoded file k (load-passed fleet file e) there
    ∙ sym (ap (λ (rs : List Record). Ok (get_or rs k blank)) (load-agents fleet file e))

-- so its words are those that read gives back
pub reader-read : ReaderRead
unfolding read_call
reader-read fleet file k e h = reader-load fleet file k e h
