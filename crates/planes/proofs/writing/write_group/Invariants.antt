use Prim.Native.Nat.{◌+◌}
use Rattle.std.specs.Prelude.{Ok}
use Rattle.planes.specs.parts.Writing.{Passed}
use Rattle.planes.proofs.writing.write_group.Given as goal

abbrev pub invariant-loop-lane : goal.invariant-loop-lane
invariant-loop-lane l = Passed l.fn.request l.group.neighbours.now l.group.start (l.group.start + l.lane) l.initial.unseen l.initial.scratch l.scratch (Ok l.unseen)
