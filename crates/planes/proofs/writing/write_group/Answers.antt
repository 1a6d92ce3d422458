-- One neighbour's plane after another takes the writing further, and one that is not finite ends it.
use Rattle.std.proofs.Common.{◌≡◌, arith}
use Rattle.std.proofs.lemmas.Result.{err_from_is_err_and}
use Rattle.planes.proofs.writing.Passing.{passed-one, passed-next, passed-stopped}
use Rattle.planes.proofs.writing.write_group.Goals as goal

pub returns-then-group-eq1 : goal.returns-then-group-eq1
returns-then-group-eq1 c =
    let one : c.args.group.size ≡ 1 = c.if-group-eq1.true in
    rw one (passed-one c.args.request c.args.group.neighbours.now c.args.group.start _ _ _ _ _ c.plane_of-made.ensures c.write_made.ensures)

pub returns-in_err-unseen : goal.returns-in_err-unseen
returns-in_err-unseen c =
    let p = err_from_is_err_and c.from_residual.result c.from_residual.ensures.1 in
    let next = passed-next c.args.request c.args.group.neighbours.now c.args.group.start c.loop-lane.lane c.loop-lane.invariant (c.planes_of-planes.ensures _ c.loop-lane-test.true) c.write_made-in-loop-lane.ensures in
    rw (p.1, p.2) (passed-stopped c.args.request c.args.group.neighbours.now (omega arith) (rw c.in_err-unseen.was at next))

pub loop-lane-preserved : goal.loop-lane-preserved
loop-lane-preserved c =
    rw c.in_ok-unseen.was at (passed-next c.args.request c.args.group.neighbours.now c.args.group.start c.loop-lane.lane c.loop-lane.invariant (c.planes_of-planes.ensures _ c.loop-lane-test.true) c.write_made-in-loop-lane.ensures)
