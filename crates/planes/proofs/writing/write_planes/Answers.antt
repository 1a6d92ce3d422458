-- Group after group takes the writing further, from no plane to all of them or up to one that is not finite.
use Rattle.std.proofs.Common.{◌≡◌, ◌/◌, min, length, refl, arith}
use Rattle.std.proofs.lemmas.Result.{err_from_is_err_and}
use Rattle.planes.proofs.writing.Passing.{passed_on, passed-stopped, all-passed}
use Rattle.planes.proofs.writing.write_planes.Goals as goal

pub returns-in_err-unseen : goal.returns-in_err-unseen
returns-in_err-unseen c =
    let p = err_from_is_err_and c.from_residual.result c.from_residual.ensures.1 in
    let start : min c.loop-start.start (length c.args.neighbours.now / 8) ≡ c.loop-start.start = omega arith in
    let next = passed_on c.args.request c.args.neighbours.now (rw start at c.loop-start.invariant) c.write_group.ensures in
    rw (p.1, p.2) (all-passed c.args.request c.args.neighbours.now refl (passed-stopped c.args.request c.args.neighbours.now (omega arith) (rw c.in_err-unseen.was at next)))

pub returns-in_ok-unseen : goal.returns-in_ok-unseen
returns-in_ok-unseen c =
    let start : min c.loop-start.start (length c.args.neighbours.now / 8) ≡ c.loop-start.start = omega arith in
    let next = passed_on c.args.request c.args.neighbours.now (rw start at c.loop-start.invariant) c.write_group.ensures in
    all-passed c.args.request c.args.neighbours.now (omega arith) (rw c.in_ok-unseen.was at next)

pub returns : goal.returns
returns c = all-passed c.args.request c.args.neighbours.now (omega arith) c.loop-start.invariant
