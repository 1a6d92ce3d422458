-- What is proved of a tick in one piece and of ticks one after another, each statement under its name. The proofs are in `proofs/`.
use Rattle.std.specs.Prelude.{ℕ, ◌+◌, ◌≤◌, ◌≡◌, List, [], length, Float}
use Rattle.requests.specs.Checks.{full_scratch}
use Rattle.records.specs.Record.{most_agents}
use Rattle.planner.specs.declared.Rule.{Rule}
use Rattle.fleet.specs.declared.Fleet.{Fleet}
use Rattle.fleet.specs.Answer.{number}
use Rattle.fleet.specs.Table.{agents, fleet_of}
use Rattle.fleet.specs.Calls.{Call}
use Rattle.fleet.specs.Runs.{after, canonical}
use Rattle.fleet.specs.Sound.{Resting, AllTyped}
use Rattle.fleet.specs.Claims.{opened_on}
use Rattle.flight.specs.Tick.{unless_refused, one_tick, ticks_in_turn}

-- A tick in one piece that is accepted leaves the fleet that demand 3's canonical run leaves after the opening, with no goal calls.
abbrev pub OneTickCanonical : Type 0
OneTickCanonical =
    (time_step : Float) (rule : Rule) (fleet : Fleet) (scratch : List Float) → length scratch ≡ full_scratch → number (one_tick time_step rule fleet).answer ≡ 0
    → let opened = opened_on fleet time_step rule in
    (one_tick time_step rule fleet).fleet ≡ after opened (canonical opened scratch [])

-- One that is refused leaves the very fleet that was given, where that has at most 64 agents and is in a tick or at rest.
abbrev pub OneTickRefused : Type 0
OneTickRefused =
    (time_step : Float) (rule : Rule) (fleet : Fleet) → length (agents fleet) ≤ most_agents → Resting fleet
    → (number (one_tick time_step rule fleet).answer ≡ 0 → ⊥) → (one_tick time_step rule fleet).fleet ≡ fleet

-- Every fleet that calls have made of the empty one is so.
abbrev pub OneTickKept : Type 0
OneTickKept =
    (calls : List Call) → AllTyped calls → (time_step : Float) (rule : Rule)
    → let fleet = after (fleet_of []) calls in
    (number (one_tick time_step rule fleet).answer ≡ 0 → ⊥) → (one_tick time_step rule fleet).fleet ≡ fleet

-- Some ticks, and then some more unless one of them was refused, are all of them in turn.
abbrev pub MoreTicks : Type 0
MoreTicks =
    (some more : ℕ) (time_step : Float) (rule : Rule) (fleet : Fleet)
    → ticks_in_turn (some + more) time_step rule fleet ≡ unless_refused (ticks_in_turn some time_step rule fleet) (ticks_in_turn more time_step rule)
