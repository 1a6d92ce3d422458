-- The exported tick: one tick in place of a lent fleet file, with its rule as a number.
use Rattle.std.specs.Prelude.{ℕ, cond, List, eqb, Float}
use Rattle.planner.specs.declared.Rule.{Rule}
use Rattle.planner.specs.declared.Rule.TheVariants.{Source, Near}
use Rattle.fleet.specs.Answer.{number, place_of}
use Rattle.flight.specs.Tick.{file_flown, file_after}
use Rattle.guineacrumb.specs.Unfit.{unfit}

-- 0 is the source rule and 1 the near rule; any other number is none
unfoldable pub by_rule : {A : Type 0} → ℕ → (Rule → A) → A → A
by_rule rule by other = cond (eqb rule 0) (by Source) (cond (eqb rule 1) (by Near) other)

unfoldable pub tick_answer : List ℕ → Float → ℕ → ℕ
tick_answer file time_step rule = by_rule rule (λ by. number (file_flown file 1 time_step by).answer) unfit

-- the file and the place stay as they were where there is no such rule
unfoldable pub file_left : List ℕ → Float → ℕ → List ℕ
file_left file time_step rule = by_rule rule (file_after file time_step) file

unfoldable pub tick_place_left : List ℕ → Float → ℕ → ℕ → ℕ
tick_place_left file time_step rule place = by_rule rule (λ by. place_of (file_flown file 1 time_step by).answer) place
