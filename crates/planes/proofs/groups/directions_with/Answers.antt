-- Each lane is filled with the direction of its relation and approach.
use Rattle.std.proofs.Common.{◌∙◌, rules}
use Rattle.planes.proofs.groups.Lanes.{one_more, direction-here, direction-before}
use Rattle.planes.proofs.groups.directions_with.Goals as goal

pub loop-lane-preserved : goal.loop-lane-preserved
loop-lane-preserved c =
    let here = c.loop-lane in
    let made = c.direction_with-direction in
    record {
      eight = search rules;
      filled = one_more _ here.lane
          (λ i less. direction-before here.lanes here.lane made.result i less ∙ here.invariant.filled i less)
          (direction-here here.lanes here.lane made.result here.invariant.eight c.loop-lane-test.true ∙ made.ensures);
    }
