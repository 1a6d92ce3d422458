-- Each refusal of a table call is given exactly when document 01 says, and leaves the table as it was.
--     refused-exactly: answer N, above 0, if and only if N's condition is the first that holds; answered-exactly: answer 0 if and only if none holds
--     same-inputs-refused: the plans refused with 1 or 17 are those that document 01's 1 named, and those refused with 18 or 7 those that its 7 named
--     refused-zeros: a refused velocity is three zeros
--     refused-unchanged: a call that is refused hands back the very fleet that it was given, whichever call it is
use mathlib.Core.Path.{◌≡◌, refl, sym, ap, ◌∙◌}
use mathlib.Core.Bool.{Bool, true, false, not, ◌&&◌, cond}
use mathlib.Core.List.{List, [], ◌∷◌, ◌++◌}
use mathlib.Core.Logic.{◌↔◌}
use Prim.Native.Nat.{ℕ, zero, suc}
use native.Mathlib.Nat.{zero-lt-suc}
use native.Mathlib.Omega.{arith}
use lib.Dec.{leb, ltb}
use lib.ListN.{length, take}
use lib.Ieee.{Float}
use borrow.Author.Tests.{ltb-true, ltb-false, le-leb, lt-leb}
use Rattle.std.specs.Prelude.{Option, Some, None, Ok, Err}
use Rattle.vectors.specs.declared.Vec3.{Vec3}
use Rattle.vectors.specs.Number.{◌>ᶠ◌, finite, zero as zero32}
use Rattle.vectors.specs.Vec3.{finite_vec}
use Rattle.vectors.proofs.Finite.{finite-are}
use Rattle.vectors.proofs.Truth.{no_truth}
use Rattle.refusals.specs.declared.Refusal.TheVariants as refusal
use Rattle.refusals.specs.Refusal as refusals
use Rattle.refusals.specs.Conditions.{first_holding, is_found, some, marked, first_bad}
use Rattle.refusals.specs.Verdict.{◌⊳◌, refused_if, refused_at, Verdict, passed}
use Rattle.refusals.proofs.Conditions.{no_place, index_of, or_else, holding-append, found_as}
use Rattle.refusals.proofs.Verdicts.{not-answered, said, Says, then, held-says, tested-says, found-says}
use Rattle.requests.specs.Reply.{Reply}
use Rattle.requests.specs.Reply as reply
use Rattle.requests.proofs.ReplyLaws.{refused_with, number-refused, renamed-refused}
use Rattle.requests.proofs.ReplyLaws as of-reply
use Rattle.avoidance.specs.Velocity.{velocity_call}
use Rattle.avoidance.specs.Conditions.{velocity_conditions, document_one_conditions}
use Rattle.avoidance.proofs.Refusals.{by-conditions}
use Rattle.avoidance.proofs.SameInputs.{document_one, told-apart, document-one-holding}
use Rattle.records.specs.declared.Record.{Record}
use Rattle.records.specs.Record.{most_agents}
use Rattle.records.specs.Checks.{index_among, record_verdict}
use Rattle.records.specs.File.{file_verdict}
use Rattle.records.specs.Conditions.{record_conditions, file_conditions}
use Rattle.records.proofs.Refusals.{record-says, file-says, among-says}
use Rattle.planner.specs.Plan.{request_for, own_record, neighbour_indices, neighbours_of}
use Rattle.planner.proofs.Replies.{reply-is}
use Rattle.fleet.specs.declared.Answer.{Answer}
use Rattle.fleet.specs.declared.Answer.TheVariants as answer
use Rattle.fleet.specs.declared.Tick.{Tick}
use Rattle.fleet.specs.declared.Fleet.{Fleet}
use Rattle.fleet.specs.Answer.{number}
use Rattle.fleet.specs.Table.{agents, settled, shut, has_agent, room, add_verdict, add_call, put_verdict, put_call, remove_verdict, remove_call, answer_to, read_call}
use Rattle.fleet.specs.Load.{load_verdict, load_call}
use Rattle.fleet.specs.Save.{short_buffer, save_verdict, save_call}
use Rattle.fleet.specs.Tick.{step_verdict, open_call, goal_fault, goal_verdict, goal_call, unplanned, astray, arrivals, open_verdict, close_verdict, close_open, close_in, close_call, opened, drop_call}
use Rattle.fleet.specs.Plan.{plans_after, fleet_after, answered_by, plan_open, plan_in, plan_call}
use Rattle.fleet.specs.Calls.{Call, step, is_open, no_agent, plan_conditions, close_conditions, call_conditions}
use Rattle.fleet.specs.Claims.{RefusedExactly, AnsweredExactly, SameInputsRefused, RefusedZeros, RefusedUnchanged}
use Rattle.fleet.proofs.Verdicts.{settled-kept}

-- ---- the verdicts of single checks

shut-says : (tick : Option Tick) → Says (shut tick) ((10, is_open tick) ∷ [])
unfolding shut
shut-says None = held-says false refusal.TickOpen
shut-says (Some tick) = held-says true refusal.TickOpen

opened-says : (tick : Option Tick) → Says (opened tick) ((11, not (is_open tick)) ∷ [])
unfolding opened
opened-says None = held-says true refusal.NoTick
opened-says (Some tick) = held-says false refusal.NoTick

index-says : (fleet : Fleet) (index : ℕ) → Says (index_among (length (agents fleet)) index) ((8, no_agent fleet index) ∷ [])
unfolding no_agent
index-says fleet index = among-says (length (agents fleet)) index

agent-says : (fleet : Fleet) (index : ℕ) → Says (has_agent fleet index) ((8, no_agent fleet index) ∷ [])
unfolding has_agent
agent-says fleet index = index-says fleet index

room_says : (count : ℕ) → Says (room count) ((9, leb most_agents count) ∷ [])
unfolding room
room_says count = tested-says (ltb count most_agents) (leb most_agents count) (refusal.Full most_agents) (go (ltb count most_agents) refl)
  where
    go : (t : Bool) → ltb count most_agents ≡ t → leb most_agents count ≡ not t
    go true e = lt-leb most_agents count (ltb-true count most_agents e)
    go false e = le-leb most_agents count (ltb-false count most_agents e)

step-says : (time_step : Float) → Says (step_verdict time_step) ((3, not (finite time_step)) ∷ (4, not (time_step >ᶠ zero32)) ∷ [])
unfolding step_verdict
step-says time_step = go (finite time_step) (time_step >ᶠ zero32)
  where
    go : (b c : Bool) → Says (cond b (cond c passed (Err (refusal.OutOfRange 12))) (Err (refusal.NotFinite 12))) ((3, not b) ∷ (4, not c) ∷ [])
    go true true = then passed passed ((3, false) ∷ []) ((4, false) ∷ []) (held-says false (refusal.NotFinite 12)) (held-says false (refusal.OutOfRange 12))
    go true false = then passed (Err (refusal.OutOfRange 12)) ((3, false) ∷ []) ((4, true) ∷ []) (held-says false (refusal.NotFinite 12)) (held-says true (refusal.OutOfRange 12))
    go false true = then (Err (refusal.NotFinite 12)) passed ((3, true) ∷ []) ((4, false) ∷ []) (held-says true (refusal.NotFinite 12)) (held-says false (refusal.OutOfRange 12))
    go false false = then (Err (refusal.NotFinite 12)) (Err (refusal.OutOfRange 12)) ((3, true) ∷ []) ((4, true) ∷ []) (held-says true (refusal.NotFinite 12)) (held-says true (refusal.OutOfRange 12))

goal-says : (v : Vec3) → Says (refused_at (goal_fault v) refusal.NotFinite) ((3, not (finite_vec v)) ∷ [])
unfolding goal_fault
goal-says v =
    found-says (goal_fault v) refusal.NotFinite 3 (not (finite_vec v)) (λ place. refl)
    (go (finite v.x) (finite v.y) (finite v.z) ∙ ap not (sym (finite-are v)))
  where
    go : (a b c : Bool) → is_found (cond a (cond b (cond c None (Some 10)) (Some 9)) (Some 8)) ≡ not (a && b && c)
    go true true true = refl
    go true true false = refl
    go true false c = refl
    go false b c = refl

close-says : (time_step : Float) (rs : List Record) (plans : List (Option Vec3))
    → Says (close_verdict time_step rs plans) ((12, some (marked unplanned 0 (take (length rs) plans))) ∷ (13, some (marked astray 0 (arrivals time_step rs plans))) ∷ [])
unfolding close_verdict
close-says time_step rs plans =
    let planless = first_bad unplanned 0 (take (length rs) plans) in
    let lost = first_bad astray 0 (arrivals time_step rs plans) in
    then (refused_at planless refusal.Unplanned) (refused_at lost refusal.PositionNotFinite) ((12, is_found planless) ∷ []) ((13, is_found lost) ∷ [])
    (found-says planless refusal.Unplanned 12 _ (λ place. refl) refl)
    (found-says lost refusal.PositionNotFinite 13 _ (λ place. refl) refl)

-- ---- what an answer says

-- the number of its refusal
abbrev refusal_in : Answer → Option ℕ
refusal_in answer.Done = None
refusal_in (answer.Plan replied) = refused_with replied
refusal_in (answer.Refused r) = Some (refusals.number r)

settled_says : (v : Verdict) (fleet next : Fleet) (cs : List (ℕ × Bool)) → Says v cs → refusal_in (settled v fleet next).answer ≡ first_holding cs
unfolding settled
settled_says (Ok _) fleet next cs e = e
settled_says (Err r) fleet next cs e = e

read-says : (v : Verdict) (cs : List (ℕ × Bool)) → Says v cs → refusal_in (answer_to v) ≡ first_holding cs
unfolding answer_to
read-says (Ok _) cs e = e
read-says (Err r) cs e = e

answered-says : (v : Verdict) (fleet : Fleet) (index : ℕ) (r : Reply) (cs ds : List (ℕ × Bool)) → Says v cs → refused_with r ≡ first_holding ds
    → refusal_in (answered_by v fleet index r).answer ≡ first_holding (cs ++ ds)
unfolding answered_by
answered-says v fleet index r cs ds e f = first v ∙ ap (λ (found : Option ℕ). or_else found (refused_with r)) e ∙ ap (or_else (first_holding cs)) f ∙ sym (holding-append cs ds)
  where
    first : (v : Verdict) → refusal_in (answered_by v fleet index r).answer ≡ or_else (said v) (refused_with r)
    first (Ok _) = refl
    first (Err r') = refl

plan-says : (tick : Option Tick) (fleet : Fleet) (index k : ℕ) → refusal_in (plan_in tick fleet index k).answer ≡ first_holding (plan_conditions velocity_conditions tick fleet index k)
unfolding plan_in plan_open plan_conditions
plan-says None fleet index k = settled_says (Err refusal.NoTick) fleet fleet ((11, true) ∷ []) (held-says true refusal.NoTick)
plan-says (Some tick) fleet index k =
    let asked = request_for (own_record (agents fleet) index) tick.time_step in
    let neighbours = neighbours_of tick.rule (agents fleet) index in
    answered-says (has_agent fleet index) fleet index _ ((8, no_agent fleet index) ∷ []) (velocity_conditions asked neighbours k) (agent-says fleet index)
    (ap refused_with (reply-is tick.time_step tick.rule (agents fleet) index k) ∙ renamed-refused (neighbour_indices tick.rule (agents fleet) index) (velocity_call asked neighbours k) ∙ by-conditions asked neighbours k)

close-call-says : (tick : Option Tick) (fleet : Fleet) → refusal_in (close_in tick fleet).answer ≡ first_holding (close_conditions tick fleet)
unfolding close_in close_open close_conditions
close-call-says None fleet = settled_says (Err refusal.NoTick) fleet fleet ((11, true) ∷ []) (held-says true refusal.NoTick)
close-call-says (Some tick) fleet =
    settled_says (close_verdict tick.time_step (agents fleet) fleet.plans) fleet _ _ (close-says tick.time_step (agents fleet) fleet.plans)

-- outside a tick, and then as what comes after says
shut-then : (tick : Option Tick) (fleet next : Fleet) (v : Verdict) (cs : List (ℕ × Bool)) → Says v cs
    → refusal_in (settled (shut tick ⊳ v) fleet next).answer ≡ first_holding ((10, is_open tick) ∷ cs)
shut-then tick fleet next v cs e = settled_says (shut tick ⊳ v) fleet next _ (then (shut tick) v ((10, is_open tick) ∷ []) cs (shut-says tick) e)

pub call-says : (fleet : Fleet) (call : Call) → refusal_in (step fleet call).answer ≡ first_holding (call_conditions fleet call)
unfolding step call_conditions load_call load_verdict save_call save_verdict add_call add_verdict put_call put_verdict remove_call remove_verdict read_call goal_call goal_verdict open_call open_verdict plan_call close_call drop_call
call-says fleet (Call.load file) = shut-then fleet.tick fleet _ (file_verdict file) (file_conditions file) (file-says file)
call-says fleet (Call.save buffer) =
    let short = short_buffer fleet (length buffer) in
    read-says (refused_if short _) ((16, short) ∷ []) (held-says short _)
call-says fleet (Call.add words) =
    let r : Record = record { words = words } in
    let count = length (agents fleet) in
    shut-then fleet.tick fleet _ (room count ⊳ record_verdict 0 r) _
    (then (room count) (record_verdict 0 r) ((9, leb most_agents count) ∷ []) (record_conditions r) (room_says count) (record-says 0 r))
call-says fleet (Call.put index words) =
    let r : Record = record { words = words } in
    let there = index_among (length (agents fleet)) index in
    shut-then fleet.tick fleet _ (there ⊳ record_verdict 0 r) _
    (then there (record_verdict 0 r) ((8, no_agent fleet index) ∷ []) (record_conditions r) (index-says fleet index) (record-says 0 r))
call-says fleet (Call.remove index) = shut-then fleet.tick fleet _ (index_among (length (agents fleet)) index) _ (index-says fleet index)
call-says fleet (Call.read index) = read-says (has_agent fleet index) _ (agent-says fleet index)
call-says fleet (Call.goal index v) =
    let there = index_among (length (agents fleet)) index in
    let unfit = refused_at (goal_fault v) refusal.NotFinite in
    settled_says (there ⊳ unfit) fleet _ _ (then there unfit ((8, no_agent fleet index) ∷ []) ((3, not (finite_vec v)) ∷ []) (index-says fleet index) (goal-says v))
call-says fleet (Call.start time_step rule) = shut-then fleet.tick fleet _ (step_verdict time_step) _ (step-says time_step)
call-says fleet (Call.plan index scratch) = plan-says fleet.tick fleet index (length scratch)
call-says fleet Call.close = close-call-says fleet.tick fleet
call-says fleet Call.drop = settled_says (opened fleet.tick) fleet _ _ (opened-says fleet.tick)

-- ---- the theorems

-- an answer has the number n + 1 exactly where it is refused with it
numbered : (given : Answer) (n : ℕ) → (number given ≡ suc n) ↔ (refusal_in given ≡ Some (suc n))
numbered answer.Done n = (λ e. absurd (omega arith), λ e. no_place e)
numbered (answer.Plan replied) n = of-reply.numbered replied n
numbered (answer.Refused r) n = (λ e. ap Some e, λ e. ap index_of e)

-- and the number 0 exactly where it is not refused
unrefused : (given : Answer) → (number given ≡ 0) ↔ (refusal_in given ≡ None)
unrefused answer.Done = (λ e. refl, λ e. refl)
unrefused (answer.Plan replied) = of-reply.unrefused replied
unrefused (answer.Refused r) = (λ e. absurd (not-answered r e), λ e. no_place (sym e))

pub refused-exactly : RefusedExactly
refused-exactly zero more fleet call = absurd (omega (arith, more))
refused-exactly (suc n) more fleet call =
    let (to, from) = numbered (step fleet call).answer n in
    (λ e. sym (call-says fleet call) ∙ to e, λ h. from (call-says fleet call ∙ h))

pub answered-exactly : AnsweredExactly
answered-exactly fleet call =
    let (to, from) = unrefused (step fleet call).answer in
    (λ e. ap is_found (sym (call-says fleet call) ∙ to e), λ none. from (call-says fleet call ∙ nothing (first_holding (call_conditions fleet call)) none))
  where
    nothing : (found : Option ℕ) → is_found found ≡ false → found ≡ None
    nothing (Some n) e = no_truth (sym e)
    nothing None e = refl

-- ---- 17 and 18 refuse the plans that document 01's 1 and 7 refused

held-before : (n : ℕ) (b : Bool) (cs : List (ℕ × Bool)) → first_holding ((n, b) ∷ cs) ≡ or_else (first_holding ((n, b) ∷ [])) (first_holding cs)
held-before n b cs = holding-append ((n, b) ∷ []) cs

plan-document-one : (tick : Option Tick) (fleet : Fleet) (index k : ℕ) → first_holding (plan_conditions document_one_conditions tick fleet index k) ≡ found_as document_one (first_holding (plan_conditions velocity_conditions tick fleet index k))
unfolding plan_conditions
plan-document-one None fleet index k = sym (held-says true refusal.NoTick) ∙ ap (found_as document_one) (held-says true refusal.NoTick)
plan-document-one (Some tick) fleet index k =
    let asked = request_for (own_record (agents fleet) index) tick.time_step in
    let neighbours = neighbours_of tick.rule (agents fleet) index in
    held-before 8 (no_agent fleet index) _
    ∙ go (first_holding ((8, no_agent fleet index) ∷ [])) _ _ (document-one-holding asked neighbours k) (kept (no_agent fleet index))
    ∙ ap (found_as document_one) (sym (held-before 8 (no_agent fleet index) _))
  where
    go : (found after after' : Option ℕ) → after ≡ found_as document_one after' → found_as document_one found ≡ found → or_else found after ≡ found_as document_one (or_else found after')
    go (Some n) after after' e kept = sym kept
    go None after after' e kept = e

    kept : (b : Bool) → found_as document_one (first_holding ((8, b) ∷ [])) ≡ first_holding ((8, b) ∷ [])
    kept true = ap (found_as document_one) (sym (held-says true (refusal.NoAgent index))) ∙ held-says true (refusal.NoAgent index)
    kept false = ap (found_as document_one) (sym (held-says false (refusal.NoAgent index))) ∙ held-says false (refusal.NoAgent index)

pub same-inputs-refused : SameInputsRefused
unfolding call_conditions
same-inputs-refused fleet index scratch =
    told-apart _ (first_holding (call_conditions fleet (Call.plan index scratch))) _ (λ n. refused-exactly (suc n) (zero-lt-suc n) fleet (Call.plan index scratch)) (plan-document-one fleet.tick fleet index (length scratch))

-- ---- a refused velocity is three zeros

pub refused-zeros : RefusedZeros
refused-zeros answer.Done refused = refl
refused-zeros (answer.Plan replied) refused = of-reply.refused-zeros replied refused
refused-zeros (answer.Refused why) refused = refl

-- ---- a refused call leaves the table unchanged

reply-kept : (fleet : Fleet) (index : ℕ) (r : Reply) → (reply.number r ≡ 0 → ⊥) → fleet_after fleet index r ≡ fleet
unfolding fleet_after plans_after
reply-kept fleet index r refused = rw (number-refused r refused)

answered-kept : (v : Verdict) (fleet : Fleet) (index : ℕ) (r : Reply) → (number (answered_by v fleet index r).answer ≡ 0 → ⊥) → (answered_by v fleet index r).fleet ≡ fleet
unfolding answered_by
answered-kept (Ok _) fleet index r refused = reply-kept fleet index r refused
answered-kept (Err r') fleet index r refused = refl

plan-kept : (tick : Option Tick) (fleet : Fleet) (index k : ℕ) → (number (plan_in tick fleet index k).answer ≡ 0 → ⊥) → (plan_in tick fleet index k).fleet ≡ fleet
unfolding plan_in plan_open
plan-kept None fleet index k refused = settled-kept _ fleet fleet refused
plan-kept (Some tick) fleet index k refused = answered-kept (has_agent fleet index) fleet index _ refused

close-kept : (tick : Option Tick) (fleet : Fleet) → (number (close_in tick fleet).answer ≡ 0 → ⊥) → (close_in tick fleet).fleet ≡ fleet
unfolding close_in close_open
close-kept None fleet refused = settled-kept _ fleet fleet refused
close-kept (Some tick) fleet refused = settled-kept _ fleet _ refused

pub refused-unchanged : RefusedUnchanged
unfolding step load_call save_call add_call put_call remove_call read_call goal_call open_call plan_call close_call drop_call
refused-unchanged fleet (Call.load file) refused = settled-kept _ fleet _ refused
refused-unchanged fleet (Call.save buffer) refused = refl
refused-unchanged fleet (Call.add words) refused = settled-kept _ fleet _ refused
refused-unchanged fleet (Call.put index words) refused = settled-kept _ fleet _ refused
refused-unchanged fleet (Call.remove index) refused = settled-kept _ fleet _ refused
refused-unchanged fleet (Call.read index) refused = refl
refused-unchanged fleet (Call.goal index v) refused = settled-kept _ fleet _ refused
refused-unchanged fleet (Call.start time_step rule) refused = settled-kept _ fleet _ refused
refused-unchanged fleet (Call.plan index scratch) refused = plan-kept fleet.tick fleet index (length scratch) refused
refused-unchanged fleet Call.close refused = close-kept fleet.tick fleet refused
refused-unchanged fleet Call.drop refused = settled-kept _ fleet _ refused
