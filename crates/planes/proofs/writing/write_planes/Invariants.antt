use Rattle.std.proofs.Common.{min, ◌-◌}
use Rattle.std.specs.Prelude.{None, Ok}
use Rattle.planes.specs.parts.Writing.{Passed}
use Rattle.planes.proofs.writing.write_planes.Given as goal

abbrev pub invariant-loop-start : goal.invariant-loop-start
invariant-loop-start l = Passed l.request l.neighbours 0 (min l.start l.count) None l.initial.scratch l.scratch (Ok l.unseen)

abbrev pub decreases-loop-start : goal.decreases-loop-start
decreases-loop-start l = l.count - l.start
