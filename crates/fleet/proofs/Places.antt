-- The place of every answer to a table call: answer-places.
use mathlib.Core.Path.{◌≡◌, refl, sym, ◌∙◌, subst}
use mathlib.Core.Bool.{Bool, true, false, not, cond}
use mathlib.Core.List.{List, [], ◌∷◌}
use Prim.Native.Nat.{ℕ, ◌+◌}
use lib.Dec.{ltb, eqb}
use lib.ListN.{length, take}
use lib.Ieee.{Float}
use borrow.Author.Tests.{eqb-true, eqb-false}
use Rattle.std.specs.Prelude.{Option, Some, None, Ok, Err}
use Rattle.vectors.specs.declared.Vec3.{Vec3}
use Rattle.vectors.specs.Number.{◌>ᶠ◌, finite, zero as zero32}
use Rattle.vectors.specs.Vec3.{zero_vec}
use Rattle.refusals.specs.declared.Refusal.{Refusal}
use Rattle.refusals.specs.declared.Refusal.TheVariants as refusal
use Rattle.refusals.specs.Refusal as refusals
use Rattle.refusals.specs.Conditions.{first_bad}
use Rattle.refusals.specs.Verdict.{◌⊳◌, refused_if, refused_at, Verdict, passed}
use Rattle.refusals.proofs.Conditions.{first_of, first-none, found-lowest}
use Rattle.refusals.proofs.Verdicts.{Gives, gives_then, gives-held, gives_found}
use Rattle.requests.specs.declared.Asked.TheVariants.{Finite}
use Rattle.requests.specs.Request.{time_step_place}
use Rattle.requests.specs.Checks.{bad_number}
use Rattle.requests.specs.Reply as reply
use Rattle.requests.specs.Reply.{renamed, Reply}
use Rattle.requests.proofs.ReplyLaws.{renamed-number, renamed-place, bad-plane-renamed}
use Rattle.requests.proofs.checks.CallNumbers.{bad-if-not-finite}
use Rattle.avoidance.proofs.velocity.Places.{places-by-answer}
use Rattle.records.specs.declared.Record.{Record}
use Rattle.records.specs.Record.{goal_word, most_agents}
use Rattle.records.specs.Checks.{index_among, record_verdict}
use Rattle.records.specs.File.{file_verdict}
use Rattle.records.proofs.Places.{gives-tested, record-places, file-places}
use Rattle.planner.specs.declared.Rule.{Rule}
use Rattle.planner.specs.Plan.{neighbour_indices, reply_for}
use Rattle.planner.proofs.Replies.{reply-is}
use Rattle.fleet.specs.declared.Answer.{Answer}
use Rattle.fleet.specs.declared.Tick.{Tick}
use Rattle.fleet.specs.declared.Fleet.{Fleet}
use Rattle.fleet.specs.Answer.{number, place_of}
use Rattle.fleet.specs.Table.{agents, settled, shut, has_agent, room, add_verdict, add_call, put_verdict, put_call, remove_verdict, remove_call, answer_to, read_call}
use Rattle.fleet.specs.Load.{load_verdict, load_call}
use Rattle.fleet.specs.Save.{short_buffer, save_verdict, save_call}
use Rattle.fleet.specs.Tick.{step_verdict, open_verdict, open_call, goal_fault, goal_verdict, goal_call, unplanned, astray, arrivals, close_verdict, close_open, close_in, close_call, opened, drop_call}
use Rattle.fleet.specs.Plan.{answered_by, plan_open, plan_in, plan_call}
use Rattle.fleet.specs.Calls.{Call, step}
use Rattle.fleet.specs.Claims.{plan_request, plan_neighbours, plan_reply, Placed, AnswerPlaces}

-- ---- single checks

module _ (fleet : Fleet) (call : Call) where
  -- the number and the place of a refusal are among the call's
  abbrev Of : Refusal → Type 0
  Of why = Placed fleet call (refusals.number why) (refusals.place_of why)

  abbrev Answers : Answer → Type 0
  Answers given = Placed fleet call (number given) (place_of given)

  settled-placed : (v : Verdict) (next : Fleet) → Gives Of v → Answers (settled v fleet next).answer
  unfolding settled
  settled-placed (Ok _) next gives = Placed.of-0 call
  settled-placed (Err why) next gives = gives

  told-placed : (v : Verdict) → Gives Of v → Answers (answer_to v)
  unfolding answer_to
  told-placed (Ok _) gives = Placed.of-0 call
  told-placed (Err why) gives = gives

  shut-gives : (tick : Option Tick) → Gives Of (shut tick)
  unfolding shut
  shut-gives None = tt
  shut-gives (Some tick) = Placed.of-10 call

  opened-gives : (tick : Option Tick) → Gives Of (opened tick)
  unfolding opened
  opened-gives None = Placed.of-11 call
  opened-gives (Some tick) = tt

  -- one of so many, where the call's place for 8 is the index
  among-gives : (count index : ℕ) → Placed fleet call 8 index → Gives Of (index_among count index)
  among-gives count index q = gives-tested Of (ltb index count) (refusal.NoAgent index) q

  agent-gives : (index : ℕ) → Placed fleet call 8 index → Gives Of (has_agent fleet index)
  unfolding has_agent
  agent-gives index q = among-gives (length (agents fleet)) index q

  -- outside a tick, and then as the next check gives
  shut-then : (tick : Option Tick) (v : Verdict) (next : Fleet) → Gives Of v → Answers (settled (shut tick ⊳ v) fleet next).answer
  shut-then tick v next gives = settled-placed (shut tick ⊳ v) next (gives_then Of (shut tick) v (shut-gives tick) gives)

  -- a record's, where the call's places are its
  record-gives : (r : Record) → ((why : Refusal) → record_verdict 0 r ≡ Err why → Of why) → Gives Of (record_verdict 0 r)
  record-gives r q = go (record_verdict 0 r) refl
    where
      go : (v : Verdict) → record_verdict 0 r ≡ v → Gives Of v
      go (Ok _) is = tt
      go (Err why) is = q why is

room-gives : (fleet : Fleet) (words : List ℕ) (count : ℕ) → Gives (Of fleet (Call.add words)) (room count)
unfolding room
room-gives fleet words count = gives-tested (Of fleet (Call.add words)) (ltb count most_agents) (refusal.Full most_agents) (Placed.add-9 words)

file-gives : (fleet : Fleet) (file : List ℕ) → Gives (Of fleet (Call.load file)) (file_verdict file)
file-gives fleet file = go (file_verdict file) refl
  where
    go : (v : Verdict) → file_verdict file ≡ v → Gives (Of fleet (Call.load file)) v
    go (Ok _) is = tt
    go (Err why) is = Placed.load-file file (refusals.number why) (refusals.place_of why) (file-places file why is)

step_gives : (fleet : Fleet) (time_step : Float) (rule : Rule) → Gives (Of fleet (Call.start time_step rule)) (step_verdict time_step)
unfolding step_verdict
step_gives fleet time_step rule = go (finite time_step) (time_step >ᶠ zero32)
  where
    go : (b c : Bool) → Gives (Of fleet (Call.start time_step rule)) (cond b (cond c passed (Err (refusal.OutOfRange time_step_place))) (Err (refusal.NotFinite time_step_place)))
    go true true = tt
    go true false = Placed.open-4 time_step rule
    go false c = Placed.open-3 time_step rule

-- a goal's fault is the lowest of its components that is not finite
goal-first : (v : Vec3) → goal_fault v ≡ first_bad (bad_number Finite) goal_word (v.x ∷ v.y ∷ v.z ∷ [])
unfolding goal_fault
goal-first v = simp (first_of (bad_number Finite), first-none (bad_number Finite), bad-if-not-finite) (go (finite v.x) (finite v.y) (finite v.z))
  where
    go : (a b c : Bool) → cond a (cond b (cond c None (Some (goal_word + 2))) (Some (goal_word + 1))) (Some goal_word) ≡ cond (not a) (Some 8) (cond (not b) (Some 9) (cond (not c) (Some 10) None))
    go true true true = refl
    go true true false = refl
    go true false c = refl
    go false b c = refl

goal-gives : (fleet : Fleet) (index : ℕ) (v : Vec3) → Gives (Of fleet (Call.goal index v)) (refused_at (goal_fault v) refusal.NotFinite)
goal-gives fleet index v =
    gives_found (Of fleet (Call.goal index v)) (goal_fault v) refusal.NotFinite
    (λ place is. Placed.goal-3 index v place (found-lowest (bad_number Finite) goal_word (v.x ∷ v.y ∷ v.z ∷ []) zero32 place (sym (goal-first v) ∙ is)))

-- ---- close and plan

close-placed : (fleet : Fleet) (tick : Option Tick) → fleet.tick ≡ tick → Answers fleet Call.close (close_in tick fleet).answer
unfolding close_in close_open close_verdict
close-placed fleet None is = settled-placed fleet Call.close (Err refusal.NoTick) fleet (Placed.of-11 Call.close)
close-placed fleet (Some tick) is =
    let Q = Of fleet Call.close in
    let planless = first_bad unplanned 0 (take (length (agents fleet)) fleet.plans) in
    let lost = first_bad astray 0 (arrivals tick.time_step (agents fleet) fleet.plans) in
    settled-placed fleet Call.close (refused_at planless refusal.Unplanned ⊳ refused_at lost refusal.PositionNotFinite) _
    (gives_then Q (refused_at planless refusal.Unplanned) (refused_at lost refusal.PositionNotFinite)
    (gives_found Q planless refusal.Unplanned (λ agent e. Placed.close-12 agent (found-lowest unplanned 0 _ None agent e)))
    (gives_found Q lost refusal.PositionNotFinite (λ agent e. Placed.close-13 tick is agent (found-lowest astray 0 _ zero_vec agent e))))

module _ (fleet : Fleet) (tick : Tick) (is : fleet.tick ≡ Some tick) (index : ℕ) (scratch : List Float) where
  abbrev names : List ℕ
  names = neighbour_indices tick.rule (agents fleet) index

  abbrev replied : Reply
  replied = plan_reply fleet tick.time_step tick.rule index scratch

  abbrev OfPlan : ℕ → ℕ → Type 0
  OfPlan n place = Placed fleet (Call.plan index scratch) n place

  reply-placed : OfPlan (reply.number (renamed names replied)) (reply.place_of (renamed names replied))
  reply-placed = go (eqb (reply.number replied) 6) refl
    where
      go : (b : Bool) → eqb (reply.number replied) 6 ≡ b → OfPlan (reply.number (renamed names replied)) (reply.place_of (renamed names replied))
      go true six =
          let e = eqb-true (reply.number replied) 6 six in
          subst (λ (n : ℕ). OfPlan n (reply.place_of (renamed names replied))) (sym (renamed-number names replied ∙ e))
          (subst (OfPlan 6) (sym (bad-plane-renamed names replied e))
          (Placed.plan-6 tick index scratch is (reply.place_of replied) ((places-by-answer (plan_request fleet tick.time_step index) (plan_neighbours fleet tick.rule index) (length scratch)).of-6 e _)))
      go false six =
          let other = eqb-false (reply.number replied) 6 six in
          subst (λ (n : ℕ). OfPlan n (reply.place_of (renamed names replied))) (sym (renamed-number names replied))
          (subst (OfPlan (reply.number replied)) (sym (renamed-place names replied other)) (Placed.plan-passes tick index scratch is other))

  answered-placed : (v : Verdict) → Gives (Of fleet (Call.plan index scratch)) v
      → Answers fleet (Call.plan index scratch) (answered_by v fleet index (reply_for tick.time_step tick.rule (agents fleet) index (length scratch))).answer
  unfolding answered_by
  answered-placed (Ok _) gives = subst (λ (r : Reply). OfPlan (reply.number r) (reply.place_of r)) (sym (reply-is tick.time_step tick.rule (agents fleet) index (length scratch))) reply-placed
  answered-placed (Err why) gives = gives

plan-placed : (fleet : Fleet) (index : ℕ) (scratch : List Float) (tick : Option Tick) → fleet.tick ≡ tick
    → Answers fleet (Call.plan index scratch) (plan_in tick fleet index (length scratch)).answer
unfolding plan_in plan_open
plan-placed fleet index scratch None is = settled-placed fleet (Call.plan index scratch) (Err refusal.NoTick) fleet (Placed.of-11 (Call.plan index scratch))
plan-placed fleet index scratch (Some tick) is =
    answered-placed fleet tick is index scratch (has_agent fleet index) (agent-gives fleet (Call.plan index scratch) index (Placed.plan-8 index scratch))

-- ---- every call

pub answer-places : AnswerPlaces
unfolding step load_call load_verdict save_call save_verdict add_call add_verdict put_call put_verdict remove_call remove_verdict read_call goal_call goal_verdict open_call open_verdict plan_call close_call drop_call
answer-places fleet (Call.load file) = shut-then fleet (Call.load file) fleet.tick (file_verdict file) _ (file-gives fleet file)
answer-places fleet (Call.save buffer) =
    let short = short_buffer fleet (length buffer) in
    told-placed fleet (Call.save buffer) (refused_if short _) (gives-held (Of fleet (Call.save buffer)) short _ (Placed.save-16 buffer))
answer-places fleet (Call.add words) =
    let call = Call.add words in
    let r : Record = record { words = words } in
    let count = length (agents fleet) in
    shut-then fleet call fleet.tick (room count ⊳ record_verdict 0 r) _
    (gives_then (Of fleet call) (room count) (record_verdict 0 r) (room-gives fleet words count)
    (record-gives fleet call r (λ why is. Placed.add-record words (refusals.number why) (refusals.place_of why) (record-places 0 r why is))))
answer-places fleet (Call.put index words) =
    let call = Call.put index words in
    let r : Record = record { words = words } in
    let there = index_among (length (agents fleet)) index in
    shut-then fleet call fleet.tick (there ⊳ record_verdict 0 r) _
    (gives_then (Of fleet call) there (record_verdict 0 r) (among-gives fleet call (length (agents fleet)) index (Placed.put-8 index words))
    (record-gives fleet call r (λ why is. Placed.put_record index words (refusals.number why) (refusals.place_of why) (record-places 0 r why is))))
answer-places fleet (Call.remove index) =
    let call = Call.remove index in
    shut-then fleet call fleet.tick (index_among (length (agents fleet)) index) _ (among-gives fleet call (length (agents fleet)) index (Placed.remove-8 index))
answer-places fleet (Call.read index) = told-placed fleet (Call.read index) (has_agent fleet index) (agent-gives fleet (Call.read index) index (Placed.read-8 index))
answer-places fleet (Call.goal index v) =
    let call = Call.goal index v in
    let there = index_among (length (agents fleet)) index in
    let unfit = refused_at (goal_fault v) refusal.NotFinite in
    settled-placed fleet call (there ⊳ unfit) _ (gives_then (Of fleet call) there unfit (among-gives fleet call (length (agents fleet)) index (Placed.goal-8 index v)) (goal-gives fleet index v))
answer-places fleet (Call.start time_step rule) = shut-then fleet (Call.start time_step rule) fleet.tick (step_verdict time_step) _ (step_gives fleet time_step rule)
answer-places fleet (Call.plan index scratch) = plan-placed fleet index scratch fleet.tick refl
answer-places fleet Call.close = close-placed fleet fleet.tick refl
answer-places fleet Call.drop = settled-placed fleet Call.drop (opened fleet.tick) _ (opened-gives fleet Call.drop fleet.tick)
