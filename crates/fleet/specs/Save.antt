-- The call save: the standing records' bytes, written at the start of a lent buffer, in a tick too.
use Rattle.std.specs.Prelude.{ℕ, ◌*◌, Bool, cond, List, ◌++◌, ltb, length, drop}
use Rattle.refusals.specs.declared.Refusal.TheVariants.{ShortBuffer}
use Rattle.refusals.specs.Verdict.{Verdict, refused_if}
use Rattle.records.specs.File.{record_bytes, file_of}
use Rattle.fleet.specs.declared.Fleet.{Fleet}
use Rattle.fleet.specs.declared.Saved.{Saved}
use Rattle.fleet.specs.Table.{agents, answer_to}

-- the bytes of the standing records: neither held goals nor plans are among them
unfoldable pub saved_bytes : Fleet → List ℕ
saved_bytes fleet = file_of (agents fleet)

-- so many there are
unfoldable pub needed_bytes : Fleet → ℕ
needed_bytes fleet = record_bytes * length (agents fleet)

-- a buffer of that length has no room for them
unfoldable pub short_buffer : Fleet → ℕ → Bool
short_buffer fleet buffer_length = ltb buffer_length (needed_bytes fleet)

-- 16, and nothing else refuses a save; its place is the bytes needed
unfoldable pub save_verdict : Fleet → ℕ → Verdict
save_verdict fleet buffer_length = refused_if (short_buffer fleet buffer_length) (ShortBuffer (needed_bytes fleet))

-- the answer, the very fleet that was given, and the bytes written: none where it is refused
unfoldable pub save_call : Fleet → ℕ → Saved
save_call fleet buffer_length = record {
  answer = answer_to (save_verdict fleet buffer_length);
  fleet = fleet;
  bytes = cond (short_buffer fleet buffer_length) 0 (needed_bytes fleet);
}

-- the buffer: as it was where the call is refused, and past the bytes written
unfoldable pub buffer_after : Fleet → List ℕ → List ℕ
buffer_after fleet buffer = cond (short_buffer fleet (length buffer)) buffer (saved_bytes fleet ++ drop (needed_bytes fleet) buffer)
