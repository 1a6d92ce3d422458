-- The numbers that stand for rules outside of the core.
use Rattle.std.specs.Prelude.{ℕ, cond, eqb, Result, Ok, Err}
use Rattle.planner.specs.declared.Rule.{Rule}
use Rattle.planner.specs.declared.Rule.TheVariants.{Source, Near}
use Rattle.planner.specs.declared.UnknownRule.{UnknownRule}

-- 0 the source rule, 1 the near rule; no other number stands for one
abbrev pub rule_of : ℕ → Result Rule UnknownRule
rule_of number = cond (eqb number 0) (Ok Source) (cond (eqb number 1) (Ok Near) (Err (record { number = number })))
