use mathlib.Core.Path.{◌≡◌}
use mathlib.Core.List.{◌++◌}
use Prim.Native.Nat.{◌/◌, ◌≤◌}
use lib.ListN.{length}
use Rattle.solver.specs.Lent.{planes_of, planes_in}
use Rattle.solver.specs.FourD.{turned_all}
use Rattle.solver.proofs.Planes.{rest}
use Rattle.solver.proofs.four_d.turn_all.Given as goal

abbrev pub invariant-loop-index : goal.invariant-loop-index
invariant-loop-index l = record {
  few : l.kept ≤ l.index;
  turned : planes_of l.kept l.turned ++ turned_all l.constraint (rest (length l.passed / 6) l.index l.passed) ≡ turned_all l.constraint (planes_in l.passed);
}
