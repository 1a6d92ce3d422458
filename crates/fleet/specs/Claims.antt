-- What is proved of the definitions, each statement under its name. The proofs are in `proofs/`.
use Rattle.std.specs.Prelude.{ℕ, ◌+◌, ◌*◌, ◌/◌, ◌≤◌, ◌<◌, ◌≡◌, true, false, Some, None, Ok, List, [], ◌∷◌, ◌++◌, ◌↔◌, ◌⊎◌, length, get_or, take, drop, replicate, Float}
use Rattle.vectors.specs.declared.Vec3.{Vec3}
use Rattle.vectors.specs.Number.{zero}
use Rattle.vectors.specs.Vec3.{zero_vec}
use Rattle.refusals.specs.Conditions.{First, some, Lowest}
use Rattle.requests.specs.Reply.{Reply}
use Rattle.requests.specs.declared.Request.{Request}
use Rattle.requests.specs.declared.Asked.TheVariants.{Finite}
use Rattle.requests.specs.Request.{time_step_place}
use Rattle.requests.specs.Checks.{bad_number, needed_scratch, full_scratch}
use Rattle.requests.specs.Reply as reply
use Rattle.planes.specs.Planes.{planes_of_call, bad_plane}
use Rattle.avoidance.specs.Velocity.{velocity_call, scratch_after}
use Rattle.avoidance.specs.Conditions.{document_one_conditions, SameInputs}
use Rattle.records.specs.declared.Record.{Record}
use Rattle.records.specs.Record.{most_agents, per_record, goal_word, blank}
use Rattle.records.specs.File.{record_bytes, word_in, words_in}
use Rattle.records.specs.Reader.{handed_at}
use Rattle.records.specs.Claims.{PlacedRecord, PlacedFile, Each, Below, WholeRecord}
use Rattle.planner.specs.declared.Rule.{Rule}
use Rattle.planner.specs.Plan.{request_for, own_record, neighbour_indices, neighbours_of, reply_for}
use Rattle.fleet.specs.declared.Answer.{Answer}
use Rattle.fleet.specs.declared.Answer.TheVariants as answer
use Rattle.fleet.specs.declared.Tick.{Tick}
use Rattle.fleet.specs.declared.Fleet.{Fleet}
use Rattle.fleet.specs.Answer.{number, place_of, velocity_of}
use Rattle.fleet.specs.Table.{agents, fleet_of, read_call}
use Rattle.fleet.specs.Load.{load_call}
use Rattle.fleet.specs.Save.{saved_bytes, needed_bytes, buffer_after}
use Rattle.fleet.specs.Tick.{unplanned, astray, arrivals}
use Rattle.fleet.specs.Plan.{plan_scratch}
use Rattle.fleet.specs.Calls.{Call, step, plan_conditions, call_conditions}
use Rattle.fleet.specs.Runs.{after, run, accepted, stays_open, goals_of, goal_calls, canonical}
use Rattle.fleet.specs.Sound.{Sound, HeldWithin, Resting, Typed, AllTyped, PassesOn}

-- ---- words used below

-- x is one of a list
infix 4 ◌∈◌
abbrev pub ◌∈◌ : {A : Type 0} → A → List A → Type 0
x ∈ [] = ⊥
x ∈ (y ∷ ys) = (x ≡ y) ⊎ (x ∈ ys)

-- what the type of a fleet says: it has at most 64 records
abbrev pub WholeFleet : Fleet → Type 0
WholeFleet fleet = length (agents fleet) ≤ most_agents

-- and each of them has 19 words of 32 bits
abbrev pub WholeRecords : Fleet → Type 0
WholeRecords fleet = Each WholeRecord (agents fleet)

-- ---- demand 1: each refusal exactly when its condition says

-- A call answers n, for every n above 0, exactly when n's condition is the first that holds of that call's.
abbrev pub RefusedExactly : Type 0
RefusedExactly = (n : ℕ) → 0 < n → (fleet : Fleet) (call : Call) → (number (step fleet call).answer ≡ n) ↔ First n (call_conditions fleet call)

-- It answers 0 exactly when none of them holds.
abbrev pub AnsweredExactly : Type 0
AnsweredExactly = (fleet : Fleet) (call : Call) → (number (step fleet call).answer ≡ 0) ↔ (some (call_conditions fleet call) ≡ false)

-- A plan answers 1 or 17 exactly where document 01's 1 is the first of its conditions that holds, and 18 or 7 exactly where its 7 is.
abbrev pub SameInputsRefused : Type 0
SameInputsRefused =
    (fleet : Fleet) (index : ℕ) (scratch : List Float)
    → SameInputs (number (step fleet (Call.plan index scratch)).answer) (plan_conditions document_one_conditions fleet.tick fleet index (length scratch))

-- ---- demand 1: places

-- the velocity call that a plan makes on the standing records: its request, its neighbours' numbers, and the reply
abbrev pub plan_request : Fleet → Float → ℕ → Request
plan_request fleet time_step index = request_for (own_record (agents fleet) index) time_step

abbrev pub plan_neighbours : Fleet → Rule → ℕ → List Float
plan_neighbours fleet rule index = neighbours_of rule (agents fleet) index

abbrev pub plan_reply : Fleet → Float → Rule → ℕ → List Float → Reply
plan_reply fleet time_step rule index scratch = velocity_call (plan_request fleet time_step index) (plan_neighbours fleet rule index) (length scratch)

-- the place of each answer to a call, by the answer's number
pub data Placed (fleet : Fleet) : Call → (number place : ℕ) → Type 0 where
  -- 0, 10 and 11: 0
  of-0 : (call : Call) → Placed fleet call 0 0
  of-10 : (call : Call) → Placed fleet call 10 0
  of-11 : (call : Call) → Placed fleet call 11 0
  -- 8: the index
  put-8 : (index : ℕ) (words : List ℕ) → Placed fleet (Call.put index words) 8 index
  remove-8 : (index : ℕ) → Placed fleet (Call.remove index) 8 index
  read-8 : (index : ℕ) → Placed fleet (Call.read index) 8 index
  goal-8 : (index : ℕ) (v : Vec3) → Placed fleet (Call.goal index v) 8 index
  plan-8 : (index : ℕ) (scratch : List Float) → Placed fleet (Call.plan index scratch) 8 index
  -- 9: 64
  add-9 : (words : List ℕ) → Placed fleet (Call.add words) 9 most_agents
  -- 15, 3, 4 and 5 of a record, and 14 and those of a file: as records/specs/Claims.antt has them
  add-record : (words : List ℕ) (number place : ℕ) → PlacedRecord 0 (record { words = words }) number place → Placed fleet (Call.add words) number place
  put_record : (index : ℕ) (words : List ℕ) (number place : ℕ) → PlacedRecord 0 (record { words = words }) number place → Placed fleet (Call.put index words) number place
  load-file : (file : List ℕ) (number place : ℕ) → PlacedFile file number place → Placed fleet (Call.load file) number place
  -- 3 of a goal, whose components are at 8, 9 and 10: the lowest that is not finite
  goal-3 : (index : ℕ) (v : Vec3) (place : ℕ) → Lowest (bad_number Finite) goal_word (v.x ∷ v.y ∷ v.z ∷ []) zero place → Placed fleet (Call.goal index v) 3 place
  -- 3 and 4 of open: 12
  open-3 : (time_step : Float) (rule : Rule) → Placed fleet (Call.start time_step rule) 3 time_step_place
  open-4 : (time_step : Float) (rule : Rule) → Placed fleet (Call.start time_step rule) 4 time_step_place
  -- 12: the first agent without a plan
  close-12 : (agent : ℕ) → Lowest unplanned 0 (take (length (agents fleet)) fleet.plans) None agent → Placed fleet Call.close 12 agent
  -- 13: the first that would arrive at a position that is not finite
  close-13 : (tick : Tick) → fleet.tick ≡ Some tick
      → (agent : ℕ) → Lowest astray 0 (arrivals tick.time_step (agents fleet) fleet.plans) zero_vec agent → Placed fleet Call.close 13 agent
  -- 16: the bytes needed
  save-16 : (buffer : List ℕ) → Placed fleet (Call.save buffer) 16 (needed_bytes fleet)
  -- a plan passes on the velocity call's number and place
  plan-passes : (tick : Tick) (index : ℕ) (scratch : List Float) → fleet.tick ≡ Some tick
      → (reply.number (plan_reply fleet tick.time_step tick.rule index scratch) ≡ 6 → ⊥)
      → Placed fleet (Call.plan index scratch) (reply.number (plan_reply fleet tick.time_step tick.rule index scratch)) (reply.place_of (plan_reply fleet tick.time_step tick.rule index scratch))
  -- but for 6's: that is the table index of the first neighbour whose plane has a component that is not finite
  plan-6 : (tick : Tick) (index : ℕ) (scratch : List Float) → fleet.tick ≡ Some tick
      → (neighbour : ℕ) → Lowest bad_plane 0 (planes_of_call (plan_request fleet tick.time_step index) (plan_neighbours fleet tick.rule index)) (record { point = zero_vec; normal = zero_vec }) neighbour
      → Placed fleet (Call.plan index scratch) 6 (get_or (neighbour_indices tick.rule (agents fleet) index) neighbour 0)

-- Every answer, to every call on every fleet, has its place so.
abbrev pub AnswerPlaces : Type 0
AnswerPlaces = (fleet : Fleet) (call : Call) → Placed fleet call (number (step fleet call).answer) (place_of (step fleet call).answer)

-- ---- demand 1: what a refused call leaves

-- A call that is refused, whichever it is, hands back the very fleet that it was given.
abbrev pub RefusedUnchanged : Type 0
RefusedUnchanged = (fleet : Fleet) (call : Call) → (number (step fleet call).answer ≡ 0 → ⊥) → (step fleet call).fleet ≡ fleet

-- A refused call can be struck out of a run: the table afterwards, the answers before it and every later answer are the same.
abbrev pub RefusedUnseen : Type 0
RefusedUnseen =
    (fleet : Fleet) (before : List Call) (call : Call) (later : List Call) → accepted (after fleet before) call ≡ false
    → (after fleet (before ++ call ∷ later) ≡ after fleet (before ++ later))
    × (run fleet (before ++ call ∷ later) ≡ run fleet before ++ (call, (step (after fleet before) call).answer) ∷ run (after fleet before) later)
    × (run fleet (before ++ later) ≡ run fleet before ++ run (after fleet before) later)

-- The velocity of an answer that is not 0 is three +0s.
abbrev pub RefusedZeros : Type 0
RefusedZeros = (given : Answer) → (number given ≡ 0 → ⊥) → velocity_of given ≡ zero_vec

-- what a plan leaves in scratch, by the number of its answer; `needed_scratch` is 12n, for n neighbours
pub record ScratchLeft (fleet : Fleet) (index : ℕ) (scratch : List Float) (number : ℕ) (left : List Float) : Type 0 where
  -- 8 and 11, 1 to 5 and 17: untouched
  pub untouched : number ∈ (8 ∷ 11 ∷ 1 ∷ 2 ∷ 3 ∷ 4 ∷ 5 ∷ 17 ∷ []) → left ≡ scratch
  -- 6, 7 and 18: its first 12n numbers are +0
  pub cleared :
      (tick : Tick) → fleet.tick ≡ Some tick → number ∈ (6 ∷ 7 ∷ 18 ∷ [])
      → left ≡ replicate (needed_scratch (plan_neighbours fleet tick.rule index)) zero ++ drop (needed_scratch (plan_neighbours fleet tick.rule index)) scratch
  -- 0: the planes and +0s, as the velocity call leaves them
  pub planes :
      (tick : Tick) → fleet.tick ≡ Some tick → number ≡ 0
      → left ≡ scratch_after (plan_request fleet tick.time_step index) (plan_neighbours fleet tick.rule index) scratch
  -- whatever it is, nothing past 12n is touched
  pub past :
      (tick : Tick) → fleet.tick ≡ Some tick
      → drop (needed_scratch (plan_neighbours fleet tick.rule index)) left ≡ drop (needed_scratch (plan_neighbours fleet tick.rule index)) scratch

-- After every plan scratch is as its answer says.
abbrev pub ScratchByAnswer : Type 0
ScratchByAnswer =
    (fleet : Fleet) (index : ℕ) (scratch : List Float)
    → ScratchLeft fleet index scratch (number (step fleet (Call.plan index scratch)).answer) (plan_scratch fleet index scratch)

-- ---- what a fleet can hold, and what a plan can pass on

-- The empty fleet is sound.
abbrev pub SoundEmpty : Type 0
SoundEmpty = Sound (fleet_of [])

-- Every call on a sound fleet, answered or refused, hands back a sound one; that its arguments are of their types is `Typed`.
abbrev pub SoundKept : Type 0
SoundKept = (fleet : Fleet) (call : Call) → Sound fleet → Typed call → Sound (step fleet call).fleet

-- And so does every run of calls.
abbrev pub SoundRun : Type 0
SoundRun = (fleet : Fleet) (calls : List Call) → Sound fleet → AllTyped calls → Sound (after fleet calls)

-- The empty fleet holds nothing past its last agent.
abbrev pub WithinEmpty : Type 0
WithinEmpty = HeldWithin (fleet_of [])

-- Every call, answered or refused, on a fleet that holds nothing past its last agent hands back one that holds nothing there.
abbrev pub WithinKept : Type 0
WithinKept = (fleet : Fleet) (call : Call) → HeldWithin fleet → HeldWithin (step fleet call).fleet

-- And so does every run of calls.
abbrev pub WithinRun : Type 0
WithinRun = (fleet : Fleet) (calls : List Call) → HeldWithin fleet → HeldWithin (after fleet calls)

-- The empty fleet is at rest.
abbrev pub RestsEmpty : Type 0
RestsEmpty = Resting (fleet_of [])

-- A run of calls, answered or refused, on a fleet that is at rest outside a tick hands back one that is.
abbrev pub RestsRun : Type 0
RestsRun = (fleet : Fleet) (calls : List Call) → Resting fleet → Resting (after fleet calls)

-- A plan of a sound fleet answers 0, 2, 3 at the places 8 to 10, 6, 18, 7, 8 or 11, and nothing else.
abbrev pub PlanPassesOn : Type 0
PlanPassesOn = (fleet : Fleet) → Sound fleet → (index : ℕ) (scratch : List Float) → PassesOn (step fleet (Call.plan index scratch)).answer

-- ---- demand 3

-- the fleet as an opening hands it back
abbrev pub opened_on : Fleet → Float → Rule → Fleet
opened_on fleet time_step rule = (step fleet (Call.start time_step rule)).fleet

-- a tick is opened on a fleet, and calls of any kind are made in it, in any order, repeats and refused ones among them: the opening is accepted,
-- no call is a drop, and no close among them is accepted
pub record InTick (fleet : Fleet) (time_step : Float) (rule : Rule) (calls : List Call) : Type 0 where
  pub whole : WholeFleet fleet
  pub opens : accepted fleet (Call.start time_step rule) ≡ true
  pub stays : stays_open (opened_on fleet time_step rule) calls ≡ true

-- among calls with their answers, each plan that is accepted answers what the velocity call, demand 2's, gives on these records
abbrev pub PlansStand : Float → Rule → List Record → List (Call × Answer) → Type 0
PlansStand time_step rule rs made =
    (index : ℕ) (scratch : List Float) (given : Answer) → (Call.plan index scratch, given) ∈ made → number given ≡ 0
    → given ≡ answer.Plan (reply_for time_step rule rs index (length scratch))

-- Demand 3. Of a tick's calls up to the first close that is accepted, every plan that is accepted is demand 2's velocity on the records as they
-- stood at the opening; and the table after the close is the one got by planning agents 0, 1, 2 and on with scratch enough, closing, and then
-- making the accepted goal calls in their order.
abbrev pub DemandThree : Type 0
DemandThree =
    (fleet : Fleet) (time_step : Float) (rule : Rule) (calls : List Call) → InTick fleet time_step rule calls
    → let opened = opened_on fleet time_step rule in
    accepted (after opened calls) Call.close ≡ true
    → PlansStand time_step rule (agents fleet) (run opened calls)
    × ((scratch : List Float) → full_scratch ≤ length scratch → after opened (calls ++ Call.close ∷ []) ≡ after opened (canonical opened scratch (goals_of opened calls)))

-- Where a drop ends the tick, every plan that is accepted is demand 2's too; the table is then that of the records at the opening, nobody moved,
-- after the accepted goal calls in their order.
abbrev pub AnyOrderDropped : Type 0
AnyOrderDropped =
    (fleet : Fleet) (time_step : Float) (rule : Rule) (calls : List Call) → InTick fleet time_step rule calls
    → let opened = opened_on fleet time_step rule in
    PlansStand time_step rule (agents fleet) (run opened calls)
    × (after opened (calls ++ Call.drop ∷ []) ≡ after (fleet_of (agents fleet)) (goal_calls (goals_of opened calls)))

-- Two plans of one agent in one tick, each with scratch enough, answer the same, whatever calls came before each: a plan repeated answers the same.
abbrev pub PlanRepeated : Type 0
PlanRepeated =
    (fleet : Fleet) (time_step : Float) (rule : Rule) (calls others : List Call) → InTick fleet time_step rule calls → InTick fleet time_step rule others
    → (index : ℕ) (scratch again : List Float)
    → needed_scratch (plan_neighbours fleet rule index) ≤ length scratch → needed_scratch (plan_neighbours fleet rule index) ≤ length again
    → let opened = opened_on fleet time_step rule in
    (step (after opened calls) (Call.plan index scratch)).answer ≡ (step (after opened others) (Call.plan index again)).answer

-- Two runs of one opening with the same accepted goal calls in the same order close to the same table, whatever the order, the number and the
-- scratch of their plans.
abbrev pub OrderUnseen : Type 0
OrderUnseen =
    (fleet : Fleet) (time_step : Float) (rule : Rule) (calls others : List Call) → InTick fleet time_step rule calls → InTick fleet time_step rule others
    → let opened = opened_on fleet time_step rule in
    accepted (after opened calls) Call.close ≡ true → accepted (after opened others) Call.close ≡ true
    → goals_of opened calls ≡ goals_of opened others → after opened (calls ++ Call.close ∷ []) ≡ after opened (others ++ Call.close ∷ [])

-- The answer to a call in a run is the one that it gets after the calls before it.
abbrev pub AnsweredInTurn : Type 0
AnsweredInTurn =
    (fleet : Fleet) (before : List Call) (call : Call) (later : List Call)
    → run fleet (before ++ call ∷ later) ≡ run fleet before ++ (call, (step (after fleet before) call).answer) ∷ run (step (after fleet before) call).fleet later

-- ---- files

-- After a load that is accepted, a read of each record of the file is answered, with the words of its bytes.
abbrev pub LoadRead : Type 0
LoadRead =
    (fleet : Fleet) (file : List ℕ) (k : ℕ) → (load_call fleet file).answer ≡ answer.Done → k < length file / record_bytes
    → read_call (load_call fleet file).fleet k ≡ record { answer = answer.Done; words = words_in per_record (drop (record_bytes * k) file); fleet = (load_call fleet file).fleet }

-- Word j of record k is in the four bytes from 76k + 4j on.
abbrev pub LoadReadWord : Type 0
LoadReadWord =
    (fleet : Fleet) (file : List ℕ) (k j : ℕ) → (load_call fleet file).answer ≡ answer.Done → k < length file / record_bytes → j < per_record
    → get_or (read_call (load_call fleet file).fleet k).words j 0 ≡ word_in (drop (record_bytes * k + 4 * j) file)

-- A reader over a file that load accepts hands out the very record that load stores at that index.
abbrev pub ReaderLoad : Type 0
ReaderLoad =
    (fleet : Fleet) (file : List ℕ) (k : ℕ) → (load_call fleet file).answer ≡ answer.Done → k < length file / record_bytes
    → handed_at file k ≡ Ok (get_or (agents (load_call fleet file).fleet) k blank)

-- So its words are those that read gives back.
abbrev pub ReaderRead : Type 0
ReaderRead =
    (fleet : Fleet) (file : List ℕ) (k : ℕ) → (load_call fleet file).answer ≡ answer.Done → k < length file / record_bytes
    → handed_at file k ≡ Ok (record { words = (read_call (load_call fleet file).fleet k).words })

-- A save that is refused leaves the buffer as it was; one that is answered leaves the bytes saved at its start, and past them it is as it was.
abbrev pub SavedBuffer : Type 0
SavedBuffer =
    (fleet : Fleet) (buffer : List ℕ) → WholeRecords fleet
    → let saved = number (step fleet (Call.save buffer)).answer in
    (saved ≡ 16 → buffer_after fleet buffer ≡ buffer)
    × (saved ≡ 0 → (take (needed_bytes fleet) (buffer_after fleet buffer) ≡ saved_bytes fleet) × (drop (needed_bytes fleet) (buffer_after fleet buffer) ≡ drop (needed_bytes fleet) buffer))

-- Load, onto any fleet with no tick open, accepts the bytes saved of a sound fleet, and its agents are then the same records, in order.
abbrev pub SavedLoads : Type 0
SavedLoads =
    (fleet onto : Fleet) → Sound fleet → WholeRecords fleet → onto.tick ≡ None
    → ((load_call onto (saved_bytes fleet)).answer ≡ answer.Done) × (agents (load_call onto (saved_bytes fleet)).fleet ≡ agents fleet)

-- A file that load accepts, saved at once, is the same bytes; that bytes are below 256 is a fact of their type.
abbrev pub LoadedSaves : Type 0
LoadedSaves = (fleet : Fleet) (file : List ℕ) → Below 256 file → (load_call fleet file).answer ≡ answer.Done → saved_bytes (load_call fleet file).fleet ≡ file

-- In an open tick the bytes saved are those of the records at its opening, whatever calls keep it open.
abbrev pub SavedStanding : Type 0
SavedStanding =
    (fleet : Fleet) (time_step : Float) (rule : Rule) (calls : List Call) → InTick fleet time_step rule calls
    → saved_bytes (after (opened_on fleet time_step rule) calls) ≡ saved_bytes fleet

-- A reader over the bytes saved of a sound fleet hands out the standing records.
abbrev pub ReaderSaved : Type 0
ReaderSaved =
    (fleet : Fleet) (k : ℕ) → Sound fleet → WholeRecords fleet → k < length (agents fleet)
    → handed_at (saved_bytes fleet) k ≡ Ok (get_or (agents fleet) k blank)
