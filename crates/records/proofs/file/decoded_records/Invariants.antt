use mathlib.Core.Path.{◌≡◌}
use lib.ListN.{length}
use Rattle.records.specs.File.{records_of, records_verdict}
use Rattle.records.proofs.InTurn.{left, read}
use Rattle.records.proofs.file.decoded_records.Given as goal

abbrev pub invariant-loop-index : goal.invariant-loop-index
invariant-loop-index l = record {
  counted : length l.records.items ≡ l.index;
  so_far : l.records.items ≡ read l.file l.index;
  to_come : left l.file l.index-end l.index ≡ records_verdict 0 (records_of l.file);
}
