use mathlib.Core.Path.{◌≡◌}
use lib.ListN.{take}
use Rattle.records.proofs.Encoding.{written}
use Rattle.records.proofs.file.write_words.Given as goal

abbrev pub invariant-loop-place : goal.invariant-loop-place
invariant-loop-place l = l.buffer ≡ written l.initial.buffer l.at (take l.place l.word-items)
