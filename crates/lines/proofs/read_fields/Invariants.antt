-- What is left to read of the fields gives what the whole does, with those so far.
use Rattle.std.proofs.Common.{◌≡◌, cond, None, length}
use Rattle.lines.specs.Lines.{parts, no_fields, with_fields, with_readable}
use Rattle.lines.proofs.read_fields.Given as goal

abbrev pub invariant-loop-rest : goal.invariant-loop-rest
invariant-loop-rest l = record {
  whole : with_fields no_fields (parts l.text) ≡ cond l.is_malformed None (with_fields l.fields (parts l.rest));
  readable : with_readable no_fields (parts l.text) ≡ with_readable l.fields (parts l.rest);
}

abbrev pub decreases-loop-rest : goal.decreases-loop-rest
decreases-loop-rest l = length l.rest
