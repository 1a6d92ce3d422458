-- What is left to read, after the value so far, says what the whole does. Each digit before it is one of at most 16.
use Rattle.std.proofs.Common.{◌≡◌, ◌<◌, ◌^◌, drop}
use Rattle.lines.specs.Lines.{spelled_in}
use Rattle.lines.proofs.spelled.Given as goal

abbrev pub invariant-loop-byte : goal.invariant-loop-byte
invariant-loop-byte l = (l.value < 16 ^ l.byte-index) × (spelled_in l.base 0 l.digits ≡ spelled_in l.base l.value (drop l.byte-index l.digits))
