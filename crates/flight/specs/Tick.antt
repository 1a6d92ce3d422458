-- A tick in one piece: open, plan every agent by rising index, close; ticks one after another; those of a file's fleet; and one in
-- place of the file.
use Rattle.std.specs.Prelude.{ℕ, zero, suc, Bool, not, cond, List, [], eqb, length, Float}
use Rattle.requests.specs.Checks.{full_scratch}
use Rattle.planner.specs.declared.Rule.{Rule}
use Rattle.fleet.specs.declared.Fleet.{Fleet}
use Rattle.fleet.specs.declared.Called.{Called}
use Rattle.fleet.specs.declared.Answer.TheVariants.{Done}
use Rattle.fleet.specs.Answer.{number}
use Rattle.fleet.specs.Table.{agents, fleet_of}
use Rattle.fleet.specs.Load.{load_call}
use Rattle.fleet.specs.Save.{buffer_after}
use Rattle.fleet.specs.Tick.{open_call, close_call, drop_call}
use Rattle.fleet.specs.Plan.{plan_call}

-- an answer that is not refused has the number 0
unfoldable pub is_refused : Called → Bool
is_refused last = not (eqb (number last.answer) 0)

-- a refused call is handed on by each that would follow it
unfoldable pub unless_refused : Called → (Fleet → Called) → Called
unless_refused last call = cond (is_refused last) last (call last.fleet)

-- agents 0, 1, 2 and on, so many of them, planned up to the first that is refused, with scratch enough for any plan
unfoldable pub first_planned : ℕ → Called → Called
first_planned zero opened = opened
first_planned (suc n) opened = unless_refused (first_planned n opened) (λ fleet. plan_call fleet n full_scratch)

-- a tick in which a call is refused is dropped, and the answer is that call's
unfoldable pub or_dropped : Called → Called
or_dropped last = cond (is_refused last) (record { answer = last.answer; fleet = (drop_call last.fleet).fleet }) last

-- all that follows the opening
unfoldable pub flown : Called → Called
flown opened = or_dropped (unless_refused (first_planned (length (agents opened.fleet)) opened) close_call)

-- the whole of it: an opening that is refused is handed back
unfoldable pub one_tick : Float → Rule → Fleet → Called
one_tick time_step rule fleet =
    let opened = open_call fleet time_step rule in
    cond (is_refused opened) opened (flown opened)

-- so many ticks one after another, up to the first that is refused, whose answer it is
unfoldable pub ticks_in_turn : ℕ → Float → Rule → Fleet → Called
ticks_in_turn zero time_step rule fleet = record { answer = Done; fleet = fleet }
ticks_in_turn (suc n) time_step rule fleet = unless_refused (one_tick time_step rule fleet) (ticks_in_turn n time_step rule)

-- a fleet file loaded onto an empty table, and so many ticks of its fleet: a load that is refused is handed back
unfoldable pub file_flown : List ℕ → ℕ → Float → Rule → Called
file_flown file n time_step rule = unless_refused (load_call (fleet_of []) file) (ticks_in_turn n time_step rule)

-- what one tick of a file's fleet leaves in the file: the fleet after it, saved; and the file as it was where a call is refused
unfoldable pub file_after : List ℕ → Float → Rule → List ℕ
file_after file time_step rule =
    let flown = file_flown file 1 time_step rule in
    cond (is_refused flown) file (buffer_after flown.fleet file)
