use mathlib.Core.Path.{◌≡◌}
use Prim.Native.Nat.{◌/◌}
use lib.ListN.{length}
use Rattle.solver.specs.declared.Outcome.TheVariants.{Feasible}
use Rattle.solver.specs.Lent.{planes_in}
use Rattle.solver.specs.ThreeD.{three_d, by_plane}
use Rattle.solver.proofs.Planes.{remaining}
use Rattle.solver.proofs.three_d.three_d.Given as goal

abbrev pub invariant-loop-index : goal.invariant-loop-index
invariant-loop-index l = remaining (by_plane l.radius l.optimum) (length l.planes / 6) l.index l.planes (Feasible l.best) ≡ three_d (planes_in l.planes) l.radius l.optimum
