-- Each lane that has a neighbour is filled with the relation to it.
use Rattle.std.proofs.Common.{ap, ◌∙◌, rules}
use lib.Ieee.{nan}
use Rattle.requests.specs.declared.Agent.{Agent}
use Rattle.planes.specs.Neighbour.{relation_of}
use Rattle.planes.proofs.groups.Lanes.{one_more, at-lane, off-lane, relation-here, relation-before}
use Rattle.planes.proofs.groups.relations_of.Goals as goal

pub loop-lane-preserved : goal.loop-lane-preserved
loop-lane-preserved c =
    let here = c.loop-lane in
    let lanes = here.lanes in
    let lane = here.lane in
    let new = c.relation_of-relation.result in
    let other = c.neighbour_in-neighbour.result.responsibility in
    let is = c.neighbour_in-neighbour.ensures in
    let stands = here.invariant.filled in
    let eight = here.invariant.eight in
    record {
      eight = search rules;
      filled = one_more _ lane
          (λ i less h. (relation-before lanes lane new other i less ∙ (stands i less h).0, off-lane lanes.responsibility lane other nan i less ∙ (stands i less h).1))
          (λ h. (relation-here lanes lane new other eight c.loop-lane-test.true ∙ c.relation_of-relation.ensures ∙ ap (relation_of c.args.request.agent) (is h), at-lane lanes.responsibility lane other nan eight.7 c.loop-lane-test.true ∙ ap (λ (a : Agent). a.responsibility) (is h)));
    }
