use mathlib.Core.Path.{◌≡◌}
use lib.Ieee.{nan}
use lib.ListN.{get_or}
use Rattle.planes.specs.parts.Groups.{relation_in, approach_in, EachBelow}
use Rattle.planes.specs.parts.Stages.{approach_of}
use Rattle.planes.proofs.groups.Lanes.{Eight-approach}
use Rattle.planes.proofs.groups.approaches_of.Given as goal

abbrev pub invariant-loop-lane : goal.invariant-loop-lane
invariant-loop-lane l = record { eight : Eight-approach l.lanes; filled : EachBelow l.lane (λ i. approach_in l.lanes i ≡ approach_of (relation_in l.relations i) l.own (get_or l.relations.responsibility i nan) l.horizon l.time_step) }
