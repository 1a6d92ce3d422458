-- The place that `position` finds among the first plans is that of the first agent without one.
use mathlib.Core.Path.{◌∙◌}
use mathlib.Core.Bool.{not}
use borrow.Author.Rules.{rules}
use borrow.Author.Tests.{tests}
use Rattle.std.proofs.lemmas.Iterator.{YieldsList-from_slice, YieldsList-from_take}
use Rattle.std.proofs.lemmas.Iterator.Search.{position_from_yields_List}
use Rattle.std.specs.Prelude.{Option, is_some, take}
use Rattle.vectors.specs.declared.Vec3.{Vec3}
use Rattle.fleet.proofs.Positions.{position-is}
use Rattle.fleet.proofs.ticks.first_unplanned.Goals as goal

pub returns : goal.returns
returns c =
    position_from_yields_List (λ (plan : Option Vec3). not (is_some plan)) _ _ _ c.position.ensures.ran
    (YieldsList-from_take c.args.count (YieldsList-from_slice c.args.plans.now cc) cc) (λ x b q k. search (rules, tests))
    ∙ position-is (λ (plan : Option Vec3). not (is_some plan)) (take c.args.count c.args.plans.now)
