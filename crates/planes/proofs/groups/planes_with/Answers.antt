-- Each lane is filled with the plane of its relation, approach, direction and length.
use Rattle.std.proofs.Common.{◌∙◌, rules}
use Rattle.planes.proofs.groups.Lanes.{one_more, plane-here, plane-before}
use Rattle.planes.proofs.groups.planes_with.Goals as goal

pub loop-lane-preserved : goal.loop-lane-preserved
loop-lane-preserved c =
    let here = c.loop-lane in
    let made = c.plane_with-made in
    record {
      eight = search rules;
      filled = one_more _ here.lane
          (λ i less. plane-before here.lanes here.lane made.result i less ∙ here.invariant.filled i less)
          (plane-here here.lanes here.lane made.result here.invariant.eight c.loop-lane-test.true ∙ made.ensures);
    }
