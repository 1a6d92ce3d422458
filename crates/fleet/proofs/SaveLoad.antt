-- Save writes the standing records as a fleet file: load and a reader take them back as they were, and a file that is loaded is saved as it was.
--     saved-buffer: a buffer too short stays as it is; else it starts with the bytes saved, and past them it is as it was
--     saved-within: no more bytes are written than the buffer has
--     saved-loads: load accepts the bytes saved of a sound fleet, and its agents are then the same records, in order
--     loaded-saves: a file that load accepts, saved at once, is the same bytes
--     saved-standing: in an open tick the bytes are those of the records at its opening
--     reader-saved: a reader over the bytes saved hands out the standing records
use mathlib.Core.Path.{◌≡◌, refl, sym, ap, ◌∙◌, subst}
use mathlib.Core.Bool.{Bool, true, false, cond}
use mathlib.Core.List.{List}
use Prim.Native.Nat.{ℕ, ◌≤◌, ◌<◌}
use native.Mathlib.Omega.{arith}
use lib.Dec.{ltb}
use lib.ListN.{length, get_or, take, drop}
use lib.Seq.{take_at, drop_at}
use borrow.Author.Tests.{ltb-false}
use Rattle.std.specs.Prelude.{Option, None, Ok}
use Rattle.refusals.specs.Verdict.{◌⊳◌, passed}
use Rattle.records.specs.declared.Record.{Record}
use Rattle.records.specs.Record.{blank}
use Rattle.records.specs.File.{file_of, records_of, file_verdict}
use Rattle.records.proofs.Encoding.{whole_length, file-back, file-passes, passed-again}
use Rattle.records.proofs.Decoding.{reader-decoded}
use Rattle.fleet.specs.declared.Answer.TheVariants.{Done}
use Rattle.fleet.specs.declared.Tick.{Tick}
use Rattle.fleet.specs.declared.Fleet.{Fleet}
use Rattle.fleet.specs.Answer.{number}
use Rattle.fleet.specs.Table.{agents, settled, shut, answer_to}
use Rattle.fleet.specs.Load.{load_verdict, loaded, load_call}
use Rattle.fleet.specs.Save.{saved_bytes, needed_bytes, short_buffer, save_verdict, save_call, buffer_after}
use Rattle.fleet.specs.Calls.{Call, step}
use Rattle.fleet.specs.Sound.{Sound}
use Rattle.fleet.specs.Claims.{WholeRecords, SavedBuffer, SavedLoads, LoadedSaves, SavedStanding, ReaderSaved}
use Rattle.fleet.proofs.LoadRead.{load-agents, load-passed}
use Rattle.fleet.proofs.AnyOrder.{standing-kept}

-- ---- the buffer

-- no more bytes are written than the buffer has
pub saved-within : (fleet : Fleet) (buffer_length : ℕ) → (save_call fleet buffer_length).bytes ≤ buffer_length
unfolding save_call short_buffer
saved-within fleet buffer_length = go (ltb buffer_length (needed_bytes fleet)) refl
  where
    go : (b : Bool) → ltb buffer_length (needed_bytes fleet) ≡ b → cond b 0 (needed_bytes fleet) ≤ buffer_length
    go true short = omega arith
    go false room = ltb-false _ _ room

saved-length : (fleet : Fleet) → WholeRecords fleet → length (saved_bytes fleet) ≡ needed_bytes fleet
unfolding saved_bytes needed_bytes
saved-length fleet whole = whole_length (agents fleet) whole

pub saved-buffer : SavedBuffer
unfolding step save_call save_verdict answer_to buffer_after
saved-buffer fleet buffer whole = go (short_buffer fleet (length buffer)) refl
  where
    saved : ℕ
    saved = number (step fleet (Call.save buffer)).answer

    left : List ℕ
    left = buffer_after fleet buffer

    go : (short : Bool) → short_buffer fleet (length buffer) ≡ short
        → (saved ≡ 16 → left ≡ buffer) × (saved ≡ 0 → (take (needed_bytes fleet) left ≡ saved_bytes fleet) × (drop (needed_bytes fleet) left ≡ drop (needed_bytes fleet) buffer))
    go true is = (λ e. rw is, λ e. absurd (omega (arith, rw is at e)))
    go false is =
        let past = drop (needed_bytes fleet) buffer in
        let long = saved-length fleet whole in (
          λ e. absurd (omega (arith, rw is at e)),
          λ e. (rw is (take_at (saved_bytes fleet) past (needed_bytes fleet) long), rw is (drop_at (saved_bytes fleet) past (needed_bytes fleet) long)),
        )

-- ---- load and a reader take the records back

saved-records : (fleet : Fleet) → WholeRecords fleet → records_of (saved_bytes fleet) ≡ agents fleet
unfolding saved_bytes
saved-records fleet whole = file-back (agents fleet) whole

saved-passes : (fleet : Fleet) → Sound fleet → WholeRecords fleet → file_verdict (saved_bytes fleet) ≡ passed
unfolding saved_bytes
saved-passes fleet sound whole = file-passes (agents fleet) sound.few whole (λ k h. (sound.stored k h).passes)

load-accepts : (onto : Fleet) (file : List ℕ) → onto.tick ≡ None → file_verdict file ≡ passed → (load_call onto file).answer ≡ Done
unfolding load_call load_verdict shut settled
load-accepts onto file no-tick passes =
    ap (λ (tick : Option Tick). (settled (shut tick ⊳ file_verdict file) onto (loaded file)).answer) no-tick ∙ rw passes

-- onto any fleet with no tick open
pub saved-loads : SavedLoads
saved-loads fleet onto sound whole no-tick =
    let takes = load-accepts onto (saved_bytes fleet) no-tick (saved-passes fleet sound whole) in
    (takes, load-agents onto (saved_bytes fleet) takes ∙ saved-records fleet whole)

pub reader-saved : ReaderSaved
reader-saved fleet k sound whole there =
    let back = saved-records fleet whole in
    reader-decoded (saved_bytes fleet) k (saved-passes fleet sound whole) (subst (λ (rs : List Record). k < length rs) (sym back) there)
    ∙ ap (λ (rs : List Record). Ok (get_or rs k blank)) back

-- ---- a file is saved as it was loaded

-- a load is accepted only where no tick is open; that bytes are below 256 is a fact of their type
pub loaded-saves : LoadedSaves
unfolding saved_bytes
loaded-saves fleet file small takes = ap file_of (load-agents fleet file takes) ∙ passed-again file (load-passed fleet file takes) small

-- ---- in a tick

-- after any calls that leave it open
pub saved-standing : SavedStanding
unfolding saved_bytes
saved-standing fleet time_step rule calls made = ap file_of (standing-kept fleet time_step rule calls made)
