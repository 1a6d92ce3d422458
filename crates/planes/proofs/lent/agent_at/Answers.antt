-- Two vectors by `vector_at` and two numbers by reading, each the one found after the first `at` numbers are dropped.
use lib.Seq.{get_or-drop, drop-drop}
use Rattle.planes.specs.Lent.{agent_at}
use Rattle.planes.proofs.lent.agent_at.Goals as goal

pub returns : goal.returns
unfolding agent_at
returns c = simp (c.vector_at.ensures, c.vector_at-2.ensures, get_or-drop, drop-drop)
