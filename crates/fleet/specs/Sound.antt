-- What a fleet made by the calls is, and what a plan of such a fleet passes on. That they are so is claimed in `Claims.antt`.
use Rattle.std.specs.Prelude.{ℕ, ◌≤◌, ◌<◌, ◌≡◌, true, Option, Some, None, List, [], ◌∷◌, length, get_or}
use Rattle.vectors.specs.declared.Vec3.{Vec3}
use Rattle.vectors.specs.Vec3.{finite_vec, IsBinary32}
use Rattle.requests.specs.Request.{preferred_place, max_speed_place}
use Rattle.records.specs.declared.Record.{Record}
use Rattle.records.specs.Record.{most_agents, per_record, blank}
use Rattle.records.specs.Checks.{record_verdict}
use Rattle.fleet.specs.declared.Answer.{Answer}
use Rattle.fleet.specs.declared.Tick.{Tick}
use Rattle.fleet.specs.declared.Fleet.{Fleet}
use Rattle.fleet.specs.Answer.{number, place_of}
use Rattle.fleet.specs.Table.{agents, fleet_of}
use Rattle.fleet.specs.Tick.{step_verdict}
use Rattle.fleet.specs.Calls.{Call}
use Rattle.refusals.specs.Verdict.{passed}

-- ---- a sound fleet

-- a stored record has all its words and passes the record checks
pub record Stored (r : Record) : Type 0 where
  pub words : length r.words ≡ per_record
  pub passes : record_verdict 0 r ≡ passed

-- a vector that is held is finite; its components are numbers of its type
abbrev pub Storable : Option Vec3 → Type 0
Storable None = Unit {0}
Storable (Some v) = (finite_vec v ≡ true) × IsBinary32 v

-- a place for each agent there can be
pub record AllStorable (held : List (Option Vec3)) : Type 0 where
  pub many : length held ≡ most_agents
  pub each : (index : ℕ) → index < most_agents → Storable (get_or held index None)

-- a tick is open only with a time step that open accepts
abbrev pub Ticking : Option Tick → Type 0
Ticking None = Unit {0}
Ticking (Some tick) = step_verdict tick.time_step ≡ passed

pub record Sound (fleet : Fleet) : Type 0 where
  pub few : length (agents fleet) ≤ most_agents
  pub stored : (index : ℕ) → index < length (agents fleet) → Stored (get_or (agents fleet) index blank)
  pub ticking : Ticking fleet.tick
  pub plans : AllStorable fleet.plans
  pub goals : AllStorable fleet.goals

-- ---- a fleet that holds nothing past its last agent

-- nothing is held at `count` and past it
abbrev pub NoneFrom : ℕ → List (Option Vec3) → Type 0
NoneFrom count held = (index : ℕ) → count ≤ index → get_or held index None ≡ None

pub record HeldWithin (fleet : Fleet) : Type 0 where
  pub no_plans : NoneFrom (length (agents fleet)) fleet.plans
  pub no_goals : NoneFrom (length (agents fleet)) fleet.goals

-- ---- a fleet at rest

-- outside a tick nothing is held
abbrev pub Resting : Fleet → Type 0
Resting fleet = fleet.tick ≡ None → fleet ≡ fleet_of (agents fleet)

-- ---- what the types of a call's arguments say

abbrev pub Typed : Call → Type 0
Typed (Call.load file) = Unit {0}
Typed (Call.save buffer) = Unit {0}
Typed (Call.add words) = length words ≡ per_record
Typed (Call.put index words) = length words ≡ per_record
Typed (Call.remove index) = Unit {0}
Typed (Call.read index) = Unit {0}
Typed (Call.goal index v) = IsBinary32 v
Typed (Call.start time_step rule) = Unit {0}
Typed (Call.plan index scratch) = Unit {0}
Typed Call.close = Unit {0}
Typed Call.drop = Unit {0}

abbrev pub AllTyped : List Call → Type 0
AllTyped [] = Unit {0}
AllTyped (call ∷ calls) = Typed call × AllTyped calls

-- ---- what a plan of a sound fleet answers, and nothing else

-- 3 only for the preferred velocity, the way to the goal, which may overflow
pub data PassesOn (answer : Answer) : Type 0 where
  answered : number answer ≡ 0 → PassesOn answer
  short_scratch : number answer ≡ 2 → PassesOn answer
  far_goal : number answer ≡ 3 → preferred_place ≤ place_of answer → place_of answer < max_speed_place → PassesOn answer
  plane_not_finite : number answer ≡ 6 → PassesOn answer
  bad_clamp : number answer ≡ 18 → PassesOn answer
  no_velocity : number answer ≡ 7 → PassesOn answer
  no_agent : number answer ≡ 8 → PassesOn answer
  no_tick : number answer ≡ 11 → PassesOn answer
