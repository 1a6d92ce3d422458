use mathlib.Core.Path.{◌≡◌}
use lib.Ieee.{nan}
use lib.ListN.{get_or}
use Rattle.planes.specs.parts.Groups.{relation_in, approach_in, direction_in, EachBelow}
use Rattle.planes.specs.parts.Stages.{direction_with}
use Rattle.planes.proofs.groups.Lanes.{Eight-direction}
use Rattle.planes.proofs.groups.directions_with.Given as goal

abbrev pub invariant-loop-lane : goal.invariant-loop-lane
invariant-loop-lane l = record { eight : Eight-direction l.lanes; filled : EachBelow l.lane (λ i. direction_in l.lanes i ≡ direction_with (relation_in l.relations i).position (relation_in l.relations i).velocity (approach_in l.approaches i).center (approach_in l.approaches i).is_cone (get_or l.roots i nan)) }
