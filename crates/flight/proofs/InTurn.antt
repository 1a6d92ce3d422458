-- Ticks one after another: they may be cut anywhere (`more-ticks`).
use mathlib.Core.Path.{◌≡◌, refl, sym, ap, ◌∙◌}
use mathlib.Core.Bool.{Bool, true, false}
use Prim.Native.Nat.{zero, suc, ◌+◌}
use native.Mathlib.Nat.{zero-add, suc-add}
use Rattle.fleet.specs.declared.Fleet.{Fleet}
use Rattle.fleet.specs.declared.Called.{Called}
use Rattle.flight.specs.Tick.{is_refused, unless_refused, one_tick, ticks_in_turn}
use Rattle.flight.specs.Claims.{MoreTicks}
use Rattle.flight.proofs.Steps.{not-refused, handed-on, goes_on}

-- ---- some ticks, and then some more

-- a call after two others
after_two : (last : Called) (next rest : Fleet → Called)
    → unless_refused last (λ fleet. unless_refused (next fleet) rest) ≡ unless_refused (unless_refused last next) rest
after_two last next rest = go (is_refused last) refl
  where
    go : (b : Bool) → is_refused last ≡ b → unless_refused last (λ fleet. unless_refused (next fleet) rest) ≡ unless_refused (unless_refused last next) rest
    go true is =
        sym (handed-on last (λ fleet. unless_refused (next fleet) rest) is) ∙ handed-on last rest is
        ∙ ap (λ (so_far : Called). unless_refused so_far rest) (handed-on last next is)
    go false is =
        sym (goes_on last (λ fleet. unless_refused (next fleet) rest) is) ∙ ap (λ (so_far : Called). unless_refused so_far rest) (goes_on last next is)

-- what follows a call may be put in other words
same_rest : (last : Called) (rest others : Fleet → Called) → ((fleet : Fleet) → rest fleet ≡ others fleet) → unless_refused last rest ≡ unless_refused last others
unfolding unless_refused
same_rest last rest others same = rw (same last.fleet)

pub more-ticks : MoreTicks
unfolding ticks_in_turn
more-ticks zero more time_step rule fleet = rw zero-add (goes_on (ticks_in_turn zero time_step rule fleet) (ticks_in_turn more time_step rule) (not-refused _ refl))
more-ticks (suc some) more time_step rule fleet =
    rw suc-add
    (same_rest (one_tick time_step rule fleet) (ticks_in_turn (some + more) time_step rule) _ (λ next. more-ticks some more time_step rule next)
    ∙ after_two (one_tick time_step rule fleet) (ticks_in_turn some time_step rule) (ticks_in_turn more time_step rule))
