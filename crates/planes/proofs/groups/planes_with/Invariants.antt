use mathlib.Core.Path.{◌≡◌}
use lib.Ieee.{nan}
use lib.ListN.{get_or}
use Rattle.planes.specs.parts.Groups.{relation_in, approach_in, direction_in, plane_in, EachBelow}
use Rattle.planes.specs.parts.Stages.{plane_with}
use Rattle.planes.proofs.groups.Lanes.{Eight-plane}
use Rattle.planes.proofs.groups.planes_with.Given as goal

abbrev pub invariant-loop-lane : goal.invariant-loop-lane
invariant-loop-lane l = record { eight : Eight-plane l.lanes; filled : EachBelow l.lane (λ i. plane_in l.lanes i ≡ plane_with l.request.agent.velocity (relation_in l.relations i).velocity (approach_in l.approaches i) (direction_in l.directions i) (get_or l.lengths i nan) l.request.fallback) }
