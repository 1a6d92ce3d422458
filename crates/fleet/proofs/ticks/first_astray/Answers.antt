-- The place that `position` finds among the records with their plans is that of the first agent that would be astray.
use mathlib.Core.Path.{◌∙◌}
use mathlib.Core.Bool.{not}
use borrow.Author.Rules.{rules}
use borrow.Author.Tests.{tests}
use Rattle.std.proofs.lemmas.Iterator.{YieldsList-from_slice, YieldsList-from_zip}
use Rattle.std.proofs.lemmas.Iterator.Search.{position_from_yields_List}
use Rattle.std.specs.List.{zip}
use Rattle.std.specs.Prelude.{Option}
use Rattle.vectors.specs.declared.Vec3.{Vec3}
use Rattle.vectors.specs.Vec3.{finite_vec}
use Rattle.records.specs.declared.Record.{Record}
use Rattle.fleet.specs.Tick.{arrival, arrivals}
use Rattle.fleet.proofs.Positions.{position-is, first-of-each}
use Rattle.fleet.proofs.ticks.first_astray.Goals as goal

pub returns : goal.returns
unfolding arrivals
returns c =
    let lost = λ (two : Record × Option Vec3). not (finite_vec (arrival c.args.time_step two.0 two.1)) in
    position_from_yields_List lost c.position.new.self _ _ c.position.ensures.ran
    (YieldsList-from_zip (YieldsList-from_slice c.args.records.now cc) (YieldsList-from_slice c.args.plans.now cc)) (λ x b q k. search (rules, tests))
    ∙ position-is lost (zip c.args.records.now c.args.plans.now)
    ∙ first-of-each (arrival c.args.time_step) (λ position. not (finite_vec position)) 0 c.args.records.now c.args.plans.now
