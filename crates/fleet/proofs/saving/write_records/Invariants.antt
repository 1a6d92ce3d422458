use mathlib.Core.Path.{◌≡◌}
use mathlib.Core.List.{◌++◌}
use Prim.Native.Nat.{◌*◌}
use lib.ListN.{take, drop}
use Rattle.records.specs.File.{file_of}
use Rattle.fleet.proofs.saving.write_records.Given as goal

-- the records so far, and what stood behind them
abbrev pub invariant-loop-index : goal.invariant-loop-index
invariant-loop-index l = l.buffer ≡ file_of (take l.index l.records) ++ drop (76 * l.index) l.initial.buffer
