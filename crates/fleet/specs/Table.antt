-- The table: its agents as a list of records, and the calls add, put, remove and read.
use Rattle.std.specs.Prelude.{ℕ, suc, cond, Option, Some, None, Ok, Err, List, [], ◌∷◌, ◌++◌, ltb, length, get_or, take, drop, set, replicate}
use Rattle.vectors.specs.declared.Vec3.{Vec3}
use Rattle.refusals.specs.declared.Refusal.TheVariants.{Full, TickOpen}
use Rattle.refusals.specs.Verdict.{Verdict, passed, ◌⊳◌}
use Rattle.records.specs.declared.Record.{Record}
use Rattle.records.specs.Record.{most_agents, blank}
use Rattle.records.specs.Checks.{index_among, record_verdict}
use Rattle.fleet.specs.declared.Answer.{Answer}
use Rattle.fleet.specs.declared.Answer.TheVariants as answer
use Rattle.fleet.specs.declared.Tick.{Tick}
use Rattle.fleet.specs.declared.Fleet.{Fleet}
use Rattle.fleet.specs.declared.Called.{Called}
use Rattle.fleet.specs.declared.Read.{Read}

-- ---- a fleet and its agents

-- the standing records
abbrev pub agents : Fleet → List Record
agents fleet = fleet.standing.items

-- for so many agents nothing is held
unfoldable pub nothing_held : List (Option Vec3)
nothing_held = replicate most_agents None

-- a fleet as it is outside a tick and at the opening of one
unfoldable pub holding_nothing : Option Tick → List Record → Fleet
holding_nothing tick rs = record {
  standing = record { items = rs };
  tick = tick;
  plans = nothing_held;
  goals = nothing_held;
}

abbrev pub fleet_of : List Record → Fleet
fleet_of rs = holding_nothing None rs

-- ---- what a call hands back

-- the new fleet where the call passed, and where it is refused the very fleet that it was given
unfoldable pub settled : Verdict → Fleet → Fleet → Called
settled (Ok _) fleet next = record { answer = answer.Done; fleet = next }
settled (Err refusal) fleet next = record { answer = answer.Refused refusal; fleet = fleet }

-- ---- checks of more than one call

unfoldable pub shut : Option Tick → Verdict
shut None = passed
shut (Some tick) = Err TickOpen

-- one of its agents has that index
unfoldable pub has_agent : Fleet → ℕ → Verdict
has_agent fleet index = index_among (length (agents fleet)) index

-- ---- add

unfoldable pub room : ℕ → Verdict
room count = cond (ltb count most_agents) passed (Err (Full most_agents))

unfoldable pub add_verdict : Option Tick → ℕ → Record → Verdict
add_verdict tick count r = shut tick ⊳ room count ⊳ record_verdict 0 r

unfoldable pub added : Fleet → Record → Fleet
added fleet r = fleet_of (agents fleet ++ r ∷ [])

unfoldable pub add_call : Fleet → List ℕ → Called
add_call fleet words =
    let r : Record = record { words = words } in
    settled (add_verdict fleet.tick (length (agents fleet)) r) fleet (added fleet r)

-- ---- put

unfoldable pub put_verdict : Option Tick → ℕ → ℕ → Record → Verdict
put_verdict tick count index r = shut tick ⊳ index_among count index ⊳ record_verdict 0 r

abbrev pub with_record : Fleet → ℕ → Record → Fleet
with_record fleet index r = fleet_of (set (agents fleet) index r)

unfoldable pub put_call : Fleet → ℕ → List ℕ → Called
put_call fleet index words =
    let r : Record = record { words = words } in
    settled (put_verdict fleet.tick (length (agents fleet)) index r) fleet (with_record fleet index r)

-- ---- remove

unfoldable pub remove_verdict : Option Tick → ℕ → ℕ → Verdict
remove_verdict tick count index = shut tick ⊳ index_among count index

-- later agents move down by one, all their words with them
unfoldable pub removed : Fleet → ℕ → Fleet
removed fleet index = fleet_of (take index (agents fleet) ++ drop (suc index) (agents fleet))

unfoldable pub remove_call : Fleet → ℕ → Called
remove_call fleet index =
    settled (remove_verdict fleet.tick (length (agents fleet)) index) fleet (removed fleet index)

-- ---- read

unfoldable pub answer_to : Verdict → Answer
answer_to (Ok _) = answer.Done
answer_to (Err refusal) = answer.Refused refusal

-- the standing record's words, in a tick too; zeros where it is refused
unfoldable pub read_call : Fleet → ℕ → Read
read_call fleet index = record {
  answer = answer_to (has_agent fleet index);
  words = (get_or (agents fleet) index blank).words;
  fleet = fleet;
}
