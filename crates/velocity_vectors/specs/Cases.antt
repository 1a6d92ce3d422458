-- When a case came out as wanted.
use Rattle.std.specs.Prelude.{◌≡◌, ◌-◌, ◌/◌, List, length, Float}
use Rattle.velocity_vectors.specs.declared.answers.Answer.{Answer}
use Rattle.velocity_vectors.specs.declared.cases.Case.{Case}
use Rattle.velocity_vectors.specs.Scratch.{wanted_word, AsWanted}

-- the answer and every number of scratch are as wanted
pub record Same (c : Case) (wanted got : Answer) (scratch : List Float) : Type 0 where
  pub answer : wanted ≡ got
  pub left : AsWanted (wanted_word wanted.number ((c.length - 17) / 8) c.planes c.fill) scratch (length scratch)
