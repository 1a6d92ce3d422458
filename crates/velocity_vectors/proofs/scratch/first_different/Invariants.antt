-- What was passed is as wanted.
use Rattle.velocity_vectors.specs.Scratch.{wanted_word, AsWanted}
use Rattle.velocity_vectors.proofs.scratch.first_different.Given as goal

abbrev pub invariant-loop-index : goal.invariant-loop-index
invariant-loop-index l = AsWanted (wanted_word l.number l.neighbours l.planes l.fill) l.scratch l.index
