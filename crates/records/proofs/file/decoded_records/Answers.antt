-- `decoded_records` ends where all records have been read, and all passed.
use native.Mathlib.Omega.{arith}
use Rattle.records.proofs.InTurn.{all_read}
use Rattle.records.proofs.file.decoded_records.Goals as goal

pub returns : goal.returns
returns c = all_read c.args.file.now c.loop-index.index c.loop-index.records (omega arith) c.loop-index.invariant.so_far c.loop-index.invariant.to_come
