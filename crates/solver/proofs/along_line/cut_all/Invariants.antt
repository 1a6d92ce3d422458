use mathlib.Core.Path.{◌≡◌}
use Prim.Native.Nat.{◌/◌}
use Rattle.std.specs.Prelude.{length}
use Rattle.solver.specs.Lent.{planes_in}
use Rattle.solver.specs.AlongLine.{cut_all, between}
use Rattle.solver.proofs.Planes.{remaining}
use Rattle.solver.proofs.Stopped.{cut}
use Rattle.solver.proofs.along_line.cut_all.Given as goal

abbrev pub invariant-loop-index : goal.invariant-loop-index
invariant-loop-index l = remaining (cut l.line) (length l.planes / 6) l.index l.planes (between l.left l.right) ≡ cut_all l.line (planes_in l.planes) (between l.start l.end)
