-- Each of the three calls ensures one component of the definition.
use Rattle.vectors.specs.Vec3.{plus_zeros}
use Rattle.vectors.proofs.Vec3.plus_zeros.Goals as goal

pub returns : goal.returns
unfolding plus_zeros
returns c = simp (← c.plus_zero.ensures, ← c.plus_zero-2.ensures, ← c.plus_zero-3.ensures)
