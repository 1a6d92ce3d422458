use mathlib.Core.Path.{◌≡◌}
use Prim.Native.Nat.{◌/◌}
use lib.ListN.{length}
use Rattle.solver.specs.declared.OnPlane.TheVariants.{Value}
use Rattle.solver.specs.Lent.{planes_in}
use Rattle.solver.specs.AlongPlane.{along_plane, by_constraint}
use Rattle.solver.proofs.Planes.{remaining}
use Rattle.solver.proofs.along_plane.along_plane.Given as goal

abbrev pub invariant-loop-index : goal.invariant-loop-index
invariant-loop-index l = remaining (by_constraint l.plane l.radius l.optimum) (length l.planes / 6) l.index l.planes (Value l.best) ≡ along_plane l.plane l.radius (planes_in l.planes) l.optimum
