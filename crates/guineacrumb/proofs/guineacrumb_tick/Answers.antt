-- Each rule's number gives the tick by that rule, and any other leaves what was lent as it was.
use mathlib.Core.Path.{◌≡◌, refl, sym, ap, ◌∙◌}
use mathlib.Core.Bool.{Bool, true, false, cond}
use Prim.Native.Nat.{ℕ}
use lib.Dec.{eqb}
use Rattle.std.specs.Prelude.{Result, Ok, Err}
use Rattle.planner.specs.declared.Rule.{Rule}
use Rattle.planner.specs.declared.Rule.TheVariants.{Source, Near}
use Rattle.planner.specs.declared.UnknownRule.{UnknownRule}
use Rattle.planner.specs.Rule.{rule_of}
use Rattle.guineacrumb.specs.Tick.{by_rule, tick_answer, file_left, tick_place_left}
use Rattle.guineacrumb.proofs.guineacrumb_tick.Goals as goal

-- what a number comes to, by the rule that it is read as
abbrev given : {A : Type 0} → Result Rule UnknownRule → (Rule → A) → A → A
given (Ok rule) by other = by rule
given (Err unknown) by other = other

module _ {A : Type 0} (rule : ℕ) (by : Rule → A) (other : A) where
  named : by_rule rule by other ≡ given (rule_of rule) by other
  unfolding by_rule
  named = go (eqb rule 0) (eqb rule 1)
    where
      go : (source near : Bool) → cond source (by Source) (cond near (by Near) other) ≡ given (cond source (Ok Source) (cond near (Ok Near) (Err (record { number = rule })))) by other
      go true near = refl
      go false true = refl
      go false false = refl

  by-read : (read : Rule) → rule_of rule ≡ Ok read → by read ≡ by_rule rule by other
  by-read read e = sym (named ∙ ap (λ (f : Result Rule UnknownRule). given f by other) e)

  by-none : (unknown : UnknownRule) → rule_of rule ≡ Err unknown → other ≡ by_rule rule by other
  by-none unknown e = sym (named ∙ ap (λ (f : Result Rule UnknownRule). given f by other) e)

pub returns-in_default : goal.returns-in_default
unfolding tick_answer file_left tick_place_left
returns-in_default c =
    let is = sym c.try_from.ensures ∙ c.in_default.is in
    record { answer = by-none _ _ _ _ is; file = by-none _ _ _ _ is; place = by-none _ _ _ _ is }

pub returns : goal.returns
unfolding tick_answer file_left tick_place_left
returns c =
    let is = sym c.try_from.ensures ∙ c.in-Ok.is in
    record { answer = c.ticked.ensures.answer ∙ by-read _ _ _ _ is; file = c.ticked.ensures.file ∙ by-read _ _ _ _ is; place = c.ticked.ensures.place ∙ by-read _ _ _ _ is }
