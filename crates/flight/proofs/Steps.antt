-- What follows a call that is refused, and one that is not.
use mathlib.Core.Path.{◌≡◌, refl, sym, ap, ◌∙◌}
use mathlib.Core.Bool.{Bool, true, false, not}
use Prim.Native.Nat.{ℕ, zero, suc, ◌+◌, ◌-◌, ◌<◌}
use native.Mathlib.Omega.{arith}
use lib.Ieee.{Float}
use borrow.Author.Tests.{eqb-true, eq-eqb, ne_eqb, not-false}
use Rattle.vectors.proofs.Truth.{no_truth}
use Rattle.planner.specs.declared.Rule.{Rule}
use Rattle.fleet.specs.declared.Fleet.{Fleet}
use Rattle.fleet.specs.declared.Called.{Called}
use Rattle.fleet.specs.Answer.{number}
use Rattle.fleet.specs.Tick.{open_call, drop_call}
use Rattle.flight.specs.Tick.{is_refused, unless_refused, or_dropped, flown, one_tick, ticks_in_turn}

-- ---- refused or not, by the answer's number

pub not-refused : (last : Called) → number last.answer ≡ 0 → is_refused last ≡ false
unfolding is_refused
not-refused last e = ap not (eq-eqb (number last.answer) 0 e)

pub is-refused : (last : Called) → (number last.answer ≡ 0 → ⊥) → is_refused last ≡ true
unfolding is_refused
is-refused last e = ap not (ne_eqb (number last.answer) 0 e)

pub answers-zero : (last : Called) → is_refused last ≡ false → number last.answer ≡ 0
unfolding is_refused
answers-zero last e = eqb-true (number last.answer) 0 (not-false _ e)

pub answers-more : (last : Called) → is_refused last ≡ true → number last.answer ≡ 0 → ⊥
answers-more last e is = no_truth (sym (not-refused last is) ∙ e)

-- ---- a call after another

module _ (last : Called) (call : Fleet → Called) where
  pub handed-on : is_refused last ≡ true → last ≡ unless_refused last call
  unfolding unless_refused
  handed-on e = rw e

  pub goes_on : is_refused last ≡ false → call last.fleet ≡ unless_refused last call
  unfolding unless_refused
  goes_on e = rw e

  -- where the second is not refused, the first is not
  pub went_on : is_refused (unless_refused last call) ≡ false → is_refused last ≡ false
  went_on e = go (is_refused last) refl
    where
      go : (b : Bool) → is_refused last ≡ b → is_refused last ≡ false
      go true is = no_truth (sym e ∙ sym (ap is_refused (handed-on is)) ∙ is)
      go false is = is

-- ---- a tick that is dropped, or not

module _ (last : Called) where
  pub is-dropped : is_refused last ≡ true → record { answer = last.answer; fleet = (drop_call last.fleet).fleet } ≡ or_dropped last
  unfolding or_dropped
  is-dropped e = rw e

  pub not-dropped : is_refused last ≡ false → last ≡ or_dropped last
  unfolding or_dropped
  not-dropped e = rw e

  -- dropped or not, the answer is the same
  pub same-verdict : is_refused (or_dropped last) ≡ is_refused last
  unfolding is_refused
  same-verdict = go (is_refused last) refl
    where
      go : (b : Bool) → is_refused last ≡ b → is_refused (or_dropped last) ≡ is_refused last
      go true is = sym (ap is_refused (is-dropped is))
      go false is = sym (ap is_refused (not-dropped is))

-- ---- what one tick comes to, by its opening

module _ (fleet : Fleet) (time_step : Float) (rule : Rule) (opened : Called) (is : opened ≡ open_call fleet time_step rule) where
  pub not_opened : is_refused opened ≡ true → opened ≡ one_tick time_step rule fleet
  unfolding one_tick
  not_opened e = rw (← is, e)

  pub is-opened : is_refused opened ≡ false → flown opened ≡ one_tick time_step rule fleet
  unfolding one_tick
  is-opened e = rw (← is, e)

-- ---- ticks one after another

-- a tick that is refused is what those that are left come to
pub turn-refused : (left : ℕ) (time_step : Float) (rule : Rule) (fleet : Fleet) (last : Called) → last ≡ one_tick time_step rule fleet → 0 < left
    → is_refused last ≡ true → last ≡ ticks_in_turn left time_step rule fleet
unfolding ticks_in_turn
turn-refused zero time_step rule fleet last is some e = absurd (omega arith)
turn-refused (suc left) time_step rule fleet last is some e = rw (← is) (handed-on last (ticks_in_turn left time_step rule) e)

-- one tick of those that are left
pub turn_done : (count counter : ℕ) (time_step : Float) (rule : Rule) (fleet : Fleet) (last : Called) → last ≡ one_tick time_step rule fleet → counter < count
    → is_refused last ≡ false → ticks_in_turn (count - (counter + 1)) time_step rule last.fleet ≡ ticks_in_turn (count - counter) time_step rule fleet
unfolding ticks_in_turn unless_refused
turn_done count counter time_step rule fleet last is more goes =
    let left : count - counter ≡ suc (count - (counter + 1)) = omega arith in
    simp (left, ← is, goes)

pub ruleset turns = (turn_done, turn-refused)
