use mathlib.Core.Path.{◌≡◌}
use Prim.Native.Nat.{◌/◌}
use lib.ListN.{length, take, drop}
use Rattle.solver.specs.Plane.{in_turn}
use Rattle.solver.specs.Lent.{planes_of}
use Rattle.solver.specs.FourD.{relax_by}
use Rattle.solver.proofs.Planes.{remaining}
use Rattle.solver.proofs.four_d.four_d.Given as goal

abbrev pub invariant-loop-index : goal.invariant-loop-index
invariant-loop-index l =
    let planes = planes_of (length l.fn.scratch / 12) l.fn.scratch in
    remaining (relax_by l.radius) (length l.planes / 6) l.index l.planes l.state ≡ in_turn (relax_by l.radius) (take l.fn.failure.index planes) (drop l.fn.failure.index planes) l.initial.state
