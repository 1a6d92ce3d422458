use mathlib.Core.Path.{◌≡◌}
use Prim.Native.Nat.{◌<◌}
use lib.Ieee.{nan}
use lib.ListN.{get_or}
use Rattle.planes.specs.Neighbour.{relation_of}
use Rattle.planes.specs.parts.Groups.{relation_in, EachBelow, neighbour_in}
use Rattle.planes.proofs.groups.Lanes.{Eight-relation}
use Rattle.planes.proofs.groups.relations_of.Given as goal

abbrev pub invariant-loop-lane : goal.invariant-loop-lane
invariant-loop-lane l = record { eight : Eight-relation l.lanes; filled : EachBelow l.lane (λ i. i < l.group.size → (relation_in l.lanes i ≡ relation_of l.request.agent (neighbour_in l.group.neighbours.now l.group.start i)) × (get_or l.lanes.responsibility i nan ≡ (neighbour_in l.group.neighbours.now l.group.start i).responsibility)) }
