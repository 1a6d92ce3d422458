use mathlib.Core.Path.{◌≡◌}
use Prim.Native.Nat.{◌-◌}
use Rattle.flight.specs.Tick.{ticks_in_turn}
use Rattle.flight.proofs.ticks_in_turn.Given as goal

-- what is left to fly gives the same answer
abbrev pub invariant-loop : goal.invariant-loop
invariant-loop l = ticks_in_turn (l.count - l.counter) l.time_step l.rule l.fleet ≡ ticks_in_turn l.count l.time_step l.rule l.fn.fleet
