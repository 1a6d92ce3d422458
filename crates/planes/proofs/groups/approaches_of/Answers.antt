-- Each lane is filled with the approach of its relation.
use Rattle.std.proofs.Common.{◌∙◌, rules}
use Rattle.planes.proofs.groups.Lanes.{one_more, approach-here, approach-before}
use Rattle.planes.proofs.groups.approaches_of.Goals as goal

pub loop-lane-preserved : goal.loop-lane-preserved
loop-lane-preserved c =
    let here = c.loop-lane in
    let made = c.approach_of-approach in
    record {
      eight = search rules;
      filled = one_more _ here.lane
          (λ i less. approach-before here.lanes here.lane made.result i less ∙ here.invariant.filled i less)
          (approach-here here.lanes here.lane made.result here.invariant.eight c.loop-lane-test.true ∙ made.ensures);
    }
