-- Demand 3: within a tick planners and goal setters may call in any order, with repeats and refused calls.
--     demand-three: up to the first close that is accepted, each plan that is accepted is demand 2's on the records as they stood at the opening,
--     and the table afterwards is the one that the canonical run leaves
--     any-order-dropped: the same for calls that end in drop: nobody is moved, and the accepted goal calls are taken up
--     plan-repeated: a plan repeated with enough scratch answers the same
--     order-unseen: two runs of one opening with the same accepted goal calls close to the same table
--     answered-in-turn: an answer in a run is the one after the calls before it
--     refused-unseen: what a refused call said has no effect on anything after it
--     standing-kept: the records that stand after calls that keep the tick open are those at the opening
use mathlib.Core.Path.{◌≡◌, refl, sym, ap, ◌∙◌, subst}
use mathlib.Core.Bool.{Bool, true, false}
use mathlib.Core.List.{List, [], ◌∷◌, ◌++◌}
use mathlib.Core.Logic.{inl, inr}
use Prim.Native.Nat.{ℕ, zero, suc, ◌+◌, ◌<◌, ◌≤◌}
use native.Mathlib.Nat.{not-suc-le-zero}
use native.Mathlib.Omega.{arith}
use lib.Dec.{eqb}
use lib.ListN.{length, get_or, take, set, replicate, length-replicate, get_or-replicate}
use lib.Seq.{get_or-set_same, get_or-set_other}
use lib.Ieee.{Float}
use borrow.Author.Tests.{eqb-true, eqb-false}
use Rattle.std.specs.Prelude.{Option, Some, None, is_some}
use Rattle.vectors.specs.declared.Vec3.{Vec3}
use Rattle.vectors.specs.Number.{zero as zero32}
use Rattle.vectors.proofs.Truth.{no_truth, both}
use Rattle.requests.specs.Checks.{full_scratch}
use Rattle.requests.specs.Reply.{renamed}
use Rattle.avoidance.proofs.velocity.CallLaws.{enough-scratch}
use Rattle.records.specs.declared.Record.{Record}
use Rattle.records.specs.Record.{most_agents}
use Rattle.records.specs.Checks.{index_among}
use Rattle.planner.specs.declared.Rule.{Rule}
use Rattle.planner.specs.Plan.{request_for, own_record, neighbour_indices, neighbours_of, reply_for}
use Rattle.planner.proofs.Replies.{reply-is}
use Rattle.fleet.specs.declared.Answer.{Answer}
use Rattle.fleet.specs.declared.Fleet.{Fleet}
use Rattle.fleet.specs.Answer.{number}
use Rattle.fleet.specs.Table.{agents, nothing_held, holding_nothing, fleet_of, settled}
use Rattle.fleet.specs.Tick.{open_verdict, open_call, with_held, goals_taken, ended, arrivals, all_moved, close_verdict}
use Rattle.fleet.specs.Plan.{plan_in, plan_call}
use Rattle.fleet.specs.Calls.{Call, step}
use Rattle.fleet.specs.Runs.{after, run, accepted, stays, stays_open, goal_in, goals_of, goal_calls, in_order, canonical}
use Rattle.fleet.specs.Claims.{opened_on, InTick, PlansStand, DemandThree, AnyOrderDropped, PlanRepeated, OrderUnseen, AnsweredInTurn, RefusedUnseen}
use Rattle.fleet.proofs.Lists.{take_same}
use Rattle.fleet.proofs.Each.{each-length, each_same}
use Rattle.fleet.proofs.Verdicts.{settled-passes}
use Rattle.fleet.proofs.HeldGoals.{hold_all, applied, all_fit, held-length, taken-applied, taken_none, goals-shut}
use Rattle.fleet.proofs.Refusals.{refused-unchanged}
use Rattle.fleet.proofs.InTick.{state, agents-are, due, Can, full, Reached, call-leads, calls-lead, one-planned, answer_by, accepted-by, accepted-close, closed, all-planned, plan-answer, dropped}
use Rattle.refusals.specs.Verdict.{Verdict}

pub after-append : (fleet : Fleet) (calls more : List Call) → after fleet (calls ++ more) ≡ after (after fleet calls) more
unfolding after
after-append fleet [] more = refl
after-append fleet (call ∷ calls) more = after-append (step fleet call).fleet calls more

-- ---- a tick that was opened on the records rs

module _ (rs : List Record) (time_step : Float) (rule : Rule) (few : length rs ≤ most_agents) where
  abbrev state_of : List (Option Vec3) → List (Option Vec3) → Fleet
  state_of = state rs time_step rule few

  abbrev due_to : ℕ → Vec3
  due_to = due rs time_step rule few

  abbrev plan_of : ℕ → Option Vec3
  plan_of = full rs time_step rule few

  -- ---- the canonical plans

  held-full : (plans : List (Option Vec3)) (j : ℕ) → j < length plans → ((i : ℕ) → i < j → get_or plans i None ≡ plan_of i)
      → (i : ℕ) → i < suc j → get_or (with_held plans j (due_to j)) i None ≡ plan_of i
  unfolding with_held
  held-full plans j room before i below = go (eqb i j) refl
    where
      go : (b : Bool) → eqb i j ≡ b → get_or (set plans j (plan_of j)) i None ≡ plan_of i
      go true is =
          let e = eqb-true i j is in
          ap (λ (k : ℕ). get_or (set plans j (plan_of j)) k None) e ∙ get_or-set_same plans j (plan_of j) None room ∙ ap plan_of (sym e)
      go false is = get_or-set_other plans j i (plan_of j) None (eqb-false i j is) ∙ before i (omega (arith, eqb-false i j is))

  record Planned (goals : List (Option Vec3)) (fleet : Fleet) : Type 0 where
    plans : List (Option Vec3)
    is : fleet ≡ state_of plans goals
    long : length plans ≡ most_agents
    all : (i : ℕ) → i < length rs → get_or plans i None ≡ plan_of i

  planned-in_order : (m j : ℕ) (plans goals : List (Option Vec3)) (scratch : List Float) → full_scratch ≤ length scratch → j + m ≡ length rs → length plans ≡ most_agents
      → ((i : ℕ) → i < j → get_or plans i None ≡ plan_of i) → ((i : ℕ) → i < length rs → Can rs time_step rule few i)
      → Planned goals (after (state_of plans goals) (in_order j m scratch))
  unfolding after in_order step plan_call plan_in state
  planned-in_order zero j plans goals scratch enough all long before can = record { plans = plans; is = refl; long = long; all = λ i below. before i (omega arith) }
  planned-in_order (suc m) j plans goals scratch enough all long before can =
      let there : j < length rs = omega arith in
      let next = one-planned rs time_step rule few plans goals j (length scratch) there (can j there (length scratch) enough) in
      subst (λ (fleet : Fleet). Planned goals (after fleet (in_order (suc j) m scratch))) (sym next)
      (planned-in_order m (suc j) (with_held plans j (due_to j)) goals scratch enough (omega arith) (held-length plans j (due_to j) ∙ long) (held-full plans j (omega arith) before) can)

  -- plans that agree for every agent close alike
  front_same : (plans plans' : List (Option Vec3)) → length plans ≡ most_agents → length plans' ≡ most_agents
      → ((i : ℕ) → i < length rs → get_or plans i None ≡ plan_of i)
      → ((i : ℕ) → i < length rs → get_or plans' i None ≡ plan_of i)
      → take (length rs) plans ≡ take (length rs) plans'
  front_same plans plans' long long' all all' = take_same (length rs) plans plans' None (omega arith) (omega arith) (λ i below. all i below ∙ sym (all' i below))

  moved_same : (plans plans' : List (Option Vec3)) → take (length rs) plans ≡ take (length rs) plans' → all_moved time_step rs plans ≡ all_moved time_step rs plans'
  unfolding all_moved
  moved_same plans plans' same = each_same _ rs plans plans' same

  verdict-same : (plans plans' : List (Option Vec3)) → take (length rs) plans ≡ take (length rs) plans' → close_verdict time_step rs plans ≡ close_verdict time_step rs plans'
  unfolding close_verdict arrivals
  verdict-same plans plans' same = rw (same, each_same _ rs plans plans' same)

  moved_length : (plans : List (Option Vec3)) → length plans ≡ most_agents → length (all_moved time_step rs plans) ≡ length rs
  unfolding all_moved
  moved_length plans long = each-length _ rs plans (omega arith)

  -- ---- together

  opening : Fleet
  opening = state_of nothing_held nothing_held

  agents-open : agents opening ≡ rs
  unfolding opening
  agents-open = agents-are rs time_step rule few nothing_held nothing_held

  -- a plan, wherever the calls have led
  plan-here : (gs : List (ℕ × Vec3)) (fleet : Fleet) → Reached rs time_step rule few gs fleet → (index : ℕ) (scratch : List Float)
      → (step fleet (Call.plan index scratch)).answer ≡ answer_by (index_among (length rs) index) (reply_for time_step rule rs index (length scratch))
  plan-here gs fleet reached index scratch =
      ap (λ (g : Fleet). (step g (Call.plan index scratch)).answer) reached.is ∙ plan-answer rs time_step rule few reached.plans (hold_all nothing_held gs) index scratch

  -- each plan among the calls that is accepted: a beginning of calls that keep the tick open keeps it open
  plans-here : (calls : List Call) (gs : List (ℕ × Vec3)) (fleet : Fleet) → Reached rs time_step rule few gs fleet → stays_open fleet calls ≡ true
      → PlansStand time_step rule rs (run fleet calls)
  unfolding run stays_open
  plans-here [] gs fleet reached still index scratch given there answers = absurd there
  plans-here (call ∷ calls) gs fleet reached still index scratch given (inl is) answers =
      let same =
      ap (λ (made : Call × Answer). made.1) is
      ∙ ap (λ (c : Call). (step fleet c).answer) (sym (ap (λ (made : Call × Answer). made.0) is))
      ∙ plan-here gs fleet reached index scratch in
      same ∙ accepted-by (index_among (length rs) index) (reply_for time_step rule rs index (length scratch)) (sym (ap number same) ∙ answers)
  plans-here (call ∷ calls) gs fleet reached still index scratch given (inr later) answers =
      let (one, more) = both (stays fleet call) (stays_open (step fleet call).fleet calls) still in
      plans-here calls (gs ++ goal_in fleet call) (step fleet call).fleet (call-leads rs time_step rule few call gs fleet reached one) more index scratch given later answers

  opened-right : Reached rs time_step rule few [] opening
  unfolding opening hold_all all_fit nothing_held
  opened-right = record {
    plans = nothing_held;
    is = refl;
    ok = record {
      long = length-replicate {A = Option Vec3} most_agents None;
      right = λ i below is. no_truth (sym (ap (λ (plan : Option Vec3). is_some plan) (get_or-replicate most_agents i None None (omega arith))) ∙ is);
    };
    fits = refl;
  }

  dropped-here : (calls : List Call) → stays_open opening calls ≡ true → (step (after opening calls) Call.drop).fleet ≡ after (fleet_of rs) (goal_calls (goals_of opening calls))
  unfolding opening ended nothing_held
  dropped-here calls still =
      let gs = goals_of opening calls in
      let reached = calls-lead rs time_step rule few calls [] opening opened-right still in
      ap (λ (fleet : Fleet). (step fleet Call.drop).fleet) reached.is
      ∙ dropped rs time_step rule few reached.plans (hold_all nothing_held gs)
      ∙ ap fleet_of (taken-applied rs nothing_held gs (omega (arith, length-replicate {A = Option Vec3} most_agents None)) reached.fits ∙ ap (λ (l : List Record). applied l gs) (taken_none most_agents rs few))
      ∙ sym (goals-shut rs gs reached.fits)

  any-order-here : (calls : List Call) (scratch : List Float) → stays_open opening calls ≡ true → accepted (after opening calls) Call.close ≡ true → full_scratch ≤ length scratch
      → (step (after opening calls) Call.close).fleet ≡ after opening (in_order 0 (length rs) scratch ++ Call.close ∷ goal_calls (goals_of opening calls))
  unfolding after opening ended nothing_held
  any-order-here calls scratch still accepted-is enough =
      let gs = goals_of opening calls in
      let goals = hold_all nothing_held gs in
      let reached = calls-lead rs time_step rule few calls [] opening opened-right still in
      let plans = reached.plans in
      let long = reached.ok.long in
      let passed = accepted-close rs time_step rule few plans goals (subst (λ (fleet : Fleet). accepted fleet Call.close ≡ true) reached.is accepted-is) in
      let right : (i : ℕ) → i < length rs → (get_or plans i None ≡ plan_of i) × Can rs time_step rule few i =
      λ i below. reached.ok.right i below (all-planned rs time_step rule few plans long passed i below) in
      let canon =
      planned-in_order (length rs) 0 nothing_held nothing_held scratch enough (omega arith) (length-replicate {A = Option Vec3} most_agents None)
      (λ i below. absurd (not-suc-le-zero below)) (λ i below. (right i below).1) in
      let same = front_same plans canon.plans long canon.long (λ i below. (right i below).0) canon.all in
      let moved_all = all_moved time_step rs plans in
      let many : length moved_all ≡ length rs = moved_length plans long in
      let fits : all_fit (length moved_all) gs ≡ true = ap (λ (n : ℕ). all_fit n gs) many ∙ reached.fits in
      let none : goals_taken moved_all nothing_held ≡ moved_all = taken_none most_agents moved_all (omega arith) in
      let here : (step (after opening calls) Call.close).fleet ≡ fleet_of (applied moved_all gs) =
      ap (λ (fleet : Fleet). (step fleet Call.close).fleet) reached.is
      ∙ closed rs time_step rule few plans goals passed
      ∙ ap fleet_of (taken-applied moved_all nothing_held gs (omega (arith, length-replicate {A = Option Vec3} most_agents None)) fits ∙ ap (λ (l : List Record). applied l gs) none) in
      let there : after opening (in_order 0 (length rs) scratch ++ Call.close ∷ goal_calls gs) ≡ fleet_of (applied moved_all gs) =
      after-append opening (in_order 0 (length rs) scratch) (Call.close ∷ goal_calls gs)
      ∙ ap (λ (fleet : Fleet). after (step fleet Call.close).fleet (goal_calls gs)) canon.is
      ∙ ap (λ (fleet : Fleet). after fleet (goal_calls gs))
      (closed rs time_step rule few canon.plans nothing_held (sym (verdict-same plans canon.plans same) ∙ passed)
      ∙ ap (λ (l : List Record). ended l nothing_held) (sym (moved_same plans canon.plans same))
      ∙ ap fleet_of none)
      ∙ goals-shut moved_all gs fits in
      here ∙ sym there

-- ---- demand 3

-- an opening that is accepted
opened-is : (fleet : Fleet) (time_step : Float) (rule : Rule) (few : length (agents fleet) ≤ most_agents) → accepted fleet (Call.start time_step rule) ≡ true
    → opened_on fleet time_step rule ≡ opening (agents fleet) time_step rule few
unfolding accepted step open_call opening state holding_nothing settled
opened-is fleet time_step rule few h =
    ap (λ (v : Verdict). (settled v fleet (holding_nothing (Some (record { time_step = time_step; rule = rule })) (agents fleet))).fleet) (settled-passes (open_verdict fleet.tick time_step) fleet _ (eqb-true _ _ h))

-- in a tick that was opened on `fleet`, after calls that keep it open
module _ (fleet : Fleet) (time_step : Float) (rule : Rule) (calls : List Call) (made : InTick fleet time_step rule calls) where
  abbrev opened : Fleet
  opened = opened_on fleet time_step rule

  few : length (agents fleet) ≤ most_agents
  few = made.whole

  abbrev start : Fleet
  start = opening (agents fleet) time_step rule few

  same-opening : opened ≡ start
  same-opening = opened-is fleet time_step rule few made.opens

  still : stays_open start calls ≡ true
  still = subst (λ (g : Fleet). stays_open g calls ≡ true) same-opening made.stays

  led : Reached (agents fleet) time_step rule few (goals_of start calls) (after start calls)
  led = calls-lead (agents fleet) time_step rule few calls [] start (opened-right (agents fleet) time_step rule few) still

  plans-stand : PlansStand time_step rule (agents fleet) (run opened calls)
  plans-stand =
      subst (λ (g : Fleet). PlansStand time_step rule (agents fleet) (run g calls)) (sym same-opening)
      (plans-here (agents fleet) time_step rule few calls [] start (opened-right (agents fleet) time_step rule few) still)

  -- what a plan then answers
  plan-there : (index : ℕ) (scratch : List Float)
      → (step (after opened calls) (Call.plan index scratch)).answer ≡ answer_by (index_among (length (agents fleet)) index) (reply_for time_step rule (agents fleet) index (length scratch))
  plan-there index scratch =
      ap (λ (g : Fleet). (step (after g calls) (Call.plan index scratch)).answer) same-opening
      ∙ plan-here (agents fleet) time_step rule few (goals_of start calls) (after start calls) led index scratch

  canonical-there : accepted (after opened calls) Call.close ≡ true → (scratch : List Float) → full_scratch ≤ length scratch
      → after opened (calls ++ Call.close ∷ []) ≡ after opened (canonical opened scratch (goals_of opened calls))
  unfolding canonical after
  canonical-there closes scratch enough =
      subst (λ (g : Fleet). accepted (after g calls) Call.close ≡ true → after g (calls ++ Call.close ∷ []) ≡ after g (in_order 0 (length (agents g)) scratch ++ Call.close ∷ goal_calls (goals_of g calls)))
      (sym same-opening)
      (λ closes'.
      after-append start calls (Call.close ∷ [])
      ∙ any-order-here (agents fleet) time_step rule few calls scratch still closes' enough
      ∙ ap (λ (n : ℕ). after start (in_order 0 n scratch ++ Call.close ∷ goal_calls (goals_of start calls))) (sym (ap length (agents-open (agents fleet) time_step rule few))))
      closes

  -- the records that stand are those at the opening
  pub standing-kept : agents (after opened calls) ≡ agents fleet
  standing-kept =
      ap (λ (g : Fleet). agents (after g calls)) same-opening
      ∙ ap agents led.is
      ∙ agents-are (agents fleet) time_step rule few led.plans (hold_all nothing_held (goals_of start calls))

  dropped-there : after opened (calls ++ Call.drop ∷ []) ≡ after (fleet_of (agents fleet)) (goal_calls (goals_of opened calls))
  unfolding after
  dropped-there =
      subst (λ (g : Fleet). after g (calls ++ Call.drop ∷ []) ≡ after (fleet_of (agents fleet)) (goal_calls (goals_of g calls))) (sym same-opening)
      (after-append start calls (Call.drop ∷ []) ∙ dropped-here (agents fleet) time_step rule few calls still)

pub demand-three : DemandThree
demand-three fleet time_step rule calls made closes = (plans-stand fleet time_step rule calls made, canonical-there fleet time_step rule calls made closes)

pub any-order-dropped : AnyOrderDropped
any-order-dropped fleet time_step rule calls made = (plans-stand fleet time_step rule calls made, dropped-there fleet time_step rule calls made)

pub plan-repeated : PlanRepeated
plan-repeated fleet time_step rule calls others made made' index scratch again enough enough' =
    let rs = agents fleet in
    plan-there fleet time_step rule calls made index scratch
    ∙ ap (answer_by (index_among (length rs) index))
    (reply-is time_step rule rs index (length scratch)
    ∙ ap (renamed (neighbour_indices rule rs index)) (enough-scratch (request_for (own_record rs index) time_step) (neighbours_of rule rs index) (length scratch) (length again) enough enough')
    ∙ sym (reply-is time_step rule rs index (length again)))
    ∙ sym (plan-there fleet time_step rule others made' index again)

-- the order, the number and the scratch of plans do not show: only the accepted goal calls do
pub order-unseen : OrderUnseen
order-unseen fleet time_step rule calls others made made' closes closes' same =
    let opened = opened_on fleet time_step rule in
    let scratch : List Float = replicate full_scratch zero32 in
    let enough : full_scratch ≤ length scratch = omega (arith, length-replicate full_scratch zero32) in
    canonical-there fleet time_step rule calls made closes scratch enough
    ∙ ap (λ (goals : List (ℕ × Vec3)). after opened (canonical opened scratch goals)) same
    ∙ sym (canonical-there fleet time_step rule others made' closes' scratch enough)

pub answered-in-turn : AnsweredInTurn
unfolding run after
answered-in-turn fleet [] call later = refl
answered-in-turn fleet (first ∷ before) call later = ap (λ (rest : List (Call × Answer)). (first, (step fleet first).answer) ∷ rest) (answered-in-turn (step fleet first).fleet before call later)

run-append : (fleet : Fleet) (calls more : List Call) → run fleet (calls ++ more) ≡ run fleet calls ++ run (after fleet calls) more
unfolding run after
run-append fleet [] more = refl
run-append fleet (call ∷ calls) more = ap (λ (rest : List (Call × Answer)). (call, (step fleet call).answer) ∷ rest) (run-append (step fleet call).fleet calls more)

pub refused-unseen : RefusedUnseen
unfolding after accepted
refused-unseen fleet before call later refused =
    let stood = after fleet before in
    let same : (step stood call).fleet ≡ stood = refused-unchanged stood call (eqb-false (number (step stood call).answer) 0 refused) in (
      after-append fleet before (call ∷ later) ∙ ap (λ (next : Fleet). after next later) same ∙ sym (after-append fleet before later),
      answered-in-turn fleet before call later ∙ ap (λ (next : Fleet). run fleet before ++ (call, (step stood call).answer) ∷ run next later) same,
      run-append fleet before later,
    )
