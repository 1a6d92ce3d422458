-- A tick's calls: the fleet keeps the records that it was opened with, whatever is planned for an agent is the velocity due to it on those
-- records, and what is held is the accepted goals in their order.
use mathlib.Core.Path.{◌≡◌, refl, sym, ap, ◌∙◌, subst}
use mathlib.Core.Bool.{Bool, true, false, not, cond}
use mathlib.Core.List.{List, [], ◌∷◌, ◌++◌, append_assoc, append-nil}
use Prim.Native.Nat.{ℕ, ◌<◌, ◌≤◌}
use native.Mathlib.Omega.{arith}
use lib.Dec.{ltb, eqb}
use lib.ListN.{length, get_or, take, set, length-set}
use lib.Seq.{length-take-le, get_or-set_same, get_or-set_other, get_or-take}
use lib.Ieee.{Float}
use borrow.Author.Tests.{ltb-true, ltb-false, lt-ltb, eqb-true, eqb-false, eq-eqb, ne_eqb, le-ltb, not-false}
use Rattle.std.specs.Prelude.{Option, Some, None, is_some, Ok, Err}
use Rattle.vectors.specs.declared.Vec3.{Vec3}
use Rattle.vectors.proofs.Truth.{no_truth, both}
use Rattle.refusals.specs.declared.Refusal.TheVariants.{Unplanned, PositionNotFinite}
use Rattle.refusals.specs.Refusal as refusals
use Rattle.refusals.specs.Conditions.{first_bad}
use Rattle.refusals.specs.Verdict.{refused_at, Verdict, passed}
use Rattle.refusals.proofs.Conditions.{none-bad}
use Rattle.refusals.proofs.Verdicts.{not-answered, both-passed, nothing-found}
use Rattle.requests.specs.Checks.{full_scratch}
use Rattle.requests.specs.Reply.{is_answered, velocity_of, Reply}
use Rattle.requests.proofs.ReplyLaws.{renamed-answered, renamed-velocity}
use Rattle.avoidance.proofs.velocity.CallLaws.{any-scratch}
use Rattle.avoidance.specs.Velocity.{velocity_call}
use Rattle.records.specs.declared.Record.{Record}
use Rattle.records.specs.Record.{most_agents}
use Rattle.records.specs.Checks.{index_among}
use Rattle.planner.specs.declared.Rule.{Rule}
use Rattle.planner.specs.Plan.{request_for, own_record, neighbour_indices, neighbours_of, reply_for}
use Rattle.planner.proofs.Kept.{enough-scratch}
use Rattle.planner.proofs.Replies.{reply-is}
use Rattle.fleet.specs.declared.Answer.{Answer}
use Rattle.fleet.specs.declared.Answer.TheVariants as answer
use Rattle.fleet.specs.declared.Fleet.{Fleet}
use Rattle.fleet.specs.Answer.{number}
use Rattle.fleet.specs.Table.{agents, nothing_held, settled, shut, has_agent, add_verdict, add_call, put_verdict, put_call, remove_verdict, remove_call, read_call}
use Rattle.fleet.specs.Load.{load_verdict, load_call}
use Rattle.fleet.specs.Save.{save_call}
use Rattle.fleet.specs.Tick.{open_verdict, open_call, goal_verdict, with_held, hold_goal, goal_set, goal_call, ended, unplanned, astray, arrivals, all_moved, close_verdict, close_open, close_in, close_call, opened, drop_call}
use Rattle.fleet.specs.Plan.{plans_after, fleet_after, answered_by, plan_open, plan_in, plan_call}
use Rattle.fleet.specs.Calls.{Call, step}
use Rattle.fleet.specs.Runs.{after, accepted, stays, stays_open, goal_in, goals_of}
use Rattle.fleet.proofs.Verdicts.{settled-passes}
use Rattle.fleet.proofs.HeldGoals.{hold_all, hold-append, passes, all_fit, fit_append}
use Rattle.fleet.proofs.Refusals.{refused-unchanged}

not-accepted : (fleet : Fleet) (call : Call) → not (accepted fleet call) ≡ true → number (step fleet call).answer ≡ 0 → ⊥
unfolding accepted
not-accepted fleet call h e = no_truth (sym (ap not (eq-eqb (number (step fleet call).answer) 0 e)) ∙ h)

-- a plan answers what the velocity call replies, where there is such an agent
abbrev pub answer_by : Verdict → Reply → Answer
answer_by (Ok _) r = answer.Plan r
answer_by (Err no-agent) r = answer.Refused no-agent

answered-by : (v : Verdict) (fleet : Fleet) (index : ℕ) (r : Reply) → (answered_by v fleet index r).answer ≡ answer_by v r
unfolding answered_by
answered-by (Ok _) fleet index r = refl
answered-by (Err no-agent) fleet index r = refl

pub accepted-by : (v : Verdict) (r : Reply) → number (answer_by v r) ≡ 0 → answer_by v r ≡ answer.Plan r
accepted-by (Ok _) r e = refl
accepted-by (Err no-agent) r e = absurd (not-answered no-agent e)

-- ---- a fleet in the tick that was opened on the records rs

module _ (rs : List Record) (time_step : Float) (rule : Rule) (few : length rs ≤ most_agents) where
  unfoldable pub state : List (Option Vec3) → List (Option Vec3) → Fleet
  state plans goals = record { standing = record { items = rs }; tick = Some (record { time_step = time_step; rule = rule }); plans = plans; goals = goals }

  pub agents-are : (plans goals : List (Option Vec3)) → agents (state plans goals) ≡ rs
  unfolding state
  agents-are plans goals = refl

  -- what the velocity call gives the agent at i, on the standing records
  abbrev call_for : ℕ → ℕ → Reply
  call_for i k = velocity_call (request_for (own_record rs i) time_step) (neighbours_of rule rs i) k

  -- the velocity due to it is the one that it is given with scratch enough
  abbrev pub due : ℕ → Vec3
  due i = velocity_of (call_for i full_scratch)

  -- with scratch enough it is answered
  abbrev pub Can : ℕ → Type 0
  Can i = (k : ℕ) → full_scratch ≤ k → is_answered (call_for i k) ≡ true

  abbrev pub full : ℕ → Option Vec3
  full i = Some (due i)

  -- an answer is the one that scratch enough gives
  same_answer : (i k enough : ℕ) → i < length rs → full_scratch ≤ enough → is_answered (call_for i k) ≡ true → call_for i enough ≡ call_for i k
  same_answer i k enough there fits answered =
      any-scratch (request_for (own_record rs i) time_step) (neighbours_of rule rs i) k enough (enough-scratch rule rs i enough few there fits) answered

  -- whatever is planned is that velocity
  pub record Plans (plans : List (Option Vec3)) : Type 0 where
    pub long : length plans ≡ most_agents
    pub right : (i : ℕ) → i < length rs → is_some (get_or plans i None) ≡ true → (get_or plans i None ≡ full i) × Can i

  there-passed : (plans goals : List (Option Vec3)) (index : ℕ) → index < length rs → has_agent (state plans goals) index ≡ passed
  unfolding has_agent state
  there-passed plans goals index there = rw (lt-ltb index (length rs) there)

  -- a plan that is answered
  pub one-planned : (plans goals : List (Option Vec3)) (index k : ℕ) → index < length rs → is_answered (call_for index k) ≡ true
      → (plan_open (record { time_step = time_step; rule = rule }) (state plans goals) index k).fleet ≡ state (with_held plans index (due index)) goals
  unfolding plan_open answered_by fleet_after plans_after state
  one-planned plans goals index k there answered =
      let names = neighbour_indices rule rs index in
      let same : velocity_of (call_for index k) ≡ due index = ap velocity_of (sym (same_answer index k full_scratch there (omega arith) answered)) in
      rw (there-passed plans goals index there, reply-is time_step rule rs index k, renamed-answered names (call_for index k), answered, renamed-velocity names (call_for index k), same)

  -- and one that is refused
  one-refused : (plans goals : List (Option Vec3)) (index k : ℕ) → index < length rs → is_answered (call_for index k) ≡ false
      → (plan_open (record { time_step = time_step; rule = rule }) (state plans goals) index k).fleet ≡ state plans goals
  unfolding plan_open answered_by fleet_after plans_after state
  one-refused plans goals index k there refused =
      rw (there-passed plans goals index there, reply-is time_step rule rs index k, renamed-answered (neighbour_indices rule rs index) (call_for index k), refused)

  none-there : (plans goals : List (Option Vec3)) (index k : ℕ) → length rs ≤ index → (plan_open (record { time_step = time_step; rule = rule }) (state plans goals) index k).fleet ≡ state plans goals
  unfolding plan_open answered_by has_agent state
  none-there plans goals index k past = rw (le-ltb index (length rs) past)

  -- what is planned stays right
  pub plans-more : (plans : List (Option Vec3)) (index : ℕ) → Plans plans → index < length rs → Can index → Plans (with_held plans index (due index))
  unfolding with_held
  plans-more plans index ok there can = record {
    long = length-set plans index (full index) ∙ ok.long;
    right = λ i below is. go (eqb i index) i refl below is;
  }
    where
      go : (b : Bool) (i : ℕ) → eqb i index ≡ b → i < length rs → is_some (get_or (set plans index (full index)) i None) ≡ true
          → (get_or (set plans index (full index)) i None ≡ full i) × Can i
      go true i same below is =
          let e = eqb-true i index same in
          (ap (λ (j : ℕ). get_or (set plans index (full index)) j None) e ∙ get_or-set_same plans index (full index) None (omega (arith, ok.long)) ∙ ap full (sym e), subst Can (sym e) can)
      go false i same below is =
          let other = get_or-set_other plans index i (full index) None (eqb-false i index same) in
          let old = ok.right i below (sym (ap (λ (plan : Option Vec3). is_some plan) other) ∙ is) in
          (other ∙ old.0, old.1)

  -- ---- where the tick's calls lead

  pub record Reached (gs : List (ℕ × Vec3)) (fleet : Fleet) : Type 0 where
    pub plans : List (Option Vec3)
    pub is : fleet ≡ state plans (hold_all nothing_held gs)
    pub ok : Plans plans
    pub fits : all_fit (length rs) gs ≡ true

  pub unchanged : (plans : List (Option Vec3)) (gs : List (ℕ × Vec3)) (fleet : Fleet)
      → Plans plans → all_fit (length rs) gs ≡ true → fleet ≡ state plans (hold_all nothing_held gs) → Reached (gs ++ []) fleet
  unchanged plans gs fleet ok fits is = subst (λ (hs : List (ℕ × Vec3)). Reached hs fleet) (sym (append-nil gs)) (record { plans = plans; is = is; ok = ok; fits = fits })

  pub goal-call : (plans : List (Option Vec3)) (gs : List (ℕ × Vec3)) → Plans plans → all_fit (length rs) gs ≡ true → (index : ℕ) (v : Vec3)
      → Reached (gs ++ goal_in (state plans (hold_all nothing_held gs)) (Call.goal index v)) (step (state plans (hold_all nothing_held gs)) (Call.goal index v)).fleet
  unfolding goal_in accepted step goal_call goal_set state hold_goal settled hold_all all_fit passes
  goal-call plans gs ok fits index v = go (goal_verdict (length rs) index v) refl
    where
      go : (w : Verdict) → goal_verdict (length rs) index v ≡ w
          → let fleet = state plans (hold_all nothing_held gs) in
          Reached (gs ++ cond (eqb (number (settled w fleet (hold_goal fleet index v)).answer) 0) ((index, v) ∷ []) []) (settled w fleet (hold_goal fleet index v)).fleet
      go (Ok _) is = record {
        plans = plans;
        is = ap (state plans) (sym (hold-append nothing_held gs ((index, v) ∷ [])));
        ok = ok;
        fits = fit_append (length rs) gs ((index, v) ∷ []) fits (rw is);
      }
      go (Err r) is =
          subst (λ (b : Bool). Reached (gs ++ cond b ((index, v) ∷ []) []) (state plans (hold_all nothing_held gs))) (sym (ne_eqb (refusals.number r) 0 (not-answered r)))
          (unchanged plans gs (state plans (hold_all nothing_held gs)) ok fits refl)

  plan-call : (plans : List (Option Vec3)) (gs : List (ℕ × Vec3)) → Plans plans → all_fit (length rs) gs ≡ true → (index k : ℕ)
      → Reached (gs ++ []) (plan_open (record { time_step = time_step; rule = rule }) (state plans (hold_all nothing_held gs)) index k).fleet
  plan-call plans gs ok fits index k = go (ltb index (length rs)) refl
    where
      goals : List (Option Vec3)
      goals = hold_all nothing_held gs

      tried : index < length rs → (b : Bool) → is_answered (call_for index k) ≡ b → Reached (gs ++ []) (plan_open (record { time_step = time_step; rule = rule }) (state plans goals) index k).fleet
      tried there true is =
          let can : Can index = λ enough h. ap is_answered (same_answer index k enough there h is) ∙ is in
          unchanged (with_held plans index (due index)) gs _ (plans-more plans index ok there can) fits (one-planned plans goals index k there is)
      tried there false is = unchanged plans gs _ ok fits (one-refused plans goals index k there is)

      go : (b : Bool) → ltb index (length rs) ≡ b → Reached (gs ++ []) (plan_open (record { time_step = time_step; rule = rule }) (state plans goals) index k).fleet
      go true is = tried (ltb-true index (length rs) is) (is_answered (call_for index k)) refl
      go false is = unchanged plans gs _ ok fits (none-there plans goals index k (ltb-false index (length rs) is))

  any-call : (plans : List (Option Vec3)) (gs : List (ℕ × Vec3)) → Plans plans → all_fit (length rs) gs ≡ true → (call : Call)
      → stays (state plans (hold_all nothing_held gs)) call ≡ true
      → Reached (gs ++ goal_in (state plans (hold_all nothing_held gs)) call) (step (state plans (hold_all nothing_held gs)) call).fleet
  unfolding goal_in stays step state load_call load_verdict save_call add_call add_verdict put_call put_verdict remove_call remove_verdict read_call open_call open_verdict plan_call plan_in settled shut
  any-call plans gs ok fits (Call.load file) h = unchanged plans gs _ ok fits refl
  any-call plans gs ok fits (Call.save buffer) h = unchanged plans gs _ ok fits refl
  any-call plans gs ok fits (Call.add words) h = unchanged plans gs _ ok fits refl
  any-call plans gs ok fits (Call.put index words) h = unchanged plans gs _ ok fits refl
  any-call plans gs ok fits (Call.remove index) h = unchanged plans gs _ ok fits refl
  any-call plans gs ok fits (Call.read index) h = unchanged plans gs _ ok fits refl
  any-call plans gs ok fits (Call.goal index v) h = goal-call plans gs ok fits index v
  any-call plans gs ok fits (Call.start step' rule') h = unchanged plans gs _ ok fits refl
  any-call plans gs ok fits (Call.plan index scratch) h = plan-call plans gs ok fits index (length scratch)
  any-call plans gs ok fits Call.close h = unchanged plans gs _ ok fits (refused-unchanged (state plans (hold_all nothing_held gs)) Call.close (not-accepted _ Call.close h))
  any-call plans gs ok fits Call.drop h = no_truth h

  pub call-leads : (call : Call) (gs : List (ℕ × Vec3)) (fleet : Fleet) → Reached gs fleet → stays fleet call ≡ true → Reached (gs ++ goal_in fleet call) (step fleet call).fleet
  call-leads call gs fleet reached =
      subst (λ (g : Fleet). stays g call ≡ true → Reached (gs ++ goal_in g call) (step g call).fleet) (sym reached.is)
      (any-call reached.plans gs reached.ok reached.fits call)

  pub calls-lead : (calls : List Call) (gs : List (ℕ × Vec3)) (fleet : Fleet) → Reached gs fleet → stays_open fleet calls ≡ true
      → Reached (gs ++ goals_of fleet calls) (after fleet calls)
  unfolding stays_open goals_of after
  calls-lead [] gs fleet reached open-still = subst (λ (hs : List (ℕ × Vec3)). Reached hs fleet) (sym (append-nil gs)) reached
  calls-lead (call ∷ calls) gs fleet reached open-still =
      let (one, more) = both (stays fleet call) (stays_open (step fleet call).fleet calls) open-still in
      subst (λ (hs : List (ℕ × Vec3)). Reached hs (after (step fleet call).fleet calls)) (append_assoc gs (goal_in fleet call) (goals_of (step fleet call).fleet calls))
      (calls-lead calls (gs ++ goal_in fleet call) (step fleet call).fleet (call-leads call gs fleet reached one) more)

  -- ---- close

  pub accepted-close : (plans goals : List (Option Vec3)) → accepted (state plans goals) Call.close ≡ true → close_verdict time_step rs plans ≡ passed
  unfolding accepted step close_call close_in close_open state
  accepted-close plans goals h =
      settled-passes _ (state plans goals) _ (eqb-true _ _ h)

  pub closed : (plans goals : List (Option Vec3)) → close_verdict time_step rs plans ≡ passed → (step (state plans goals) Call.close).fleet ≡ ended (all_moved time_step rs plans) goals
  unfolding step close_call close_in close_open settled state
  closed plans goals are-passed =
      ap (λ (v : Verdict). (settled v (state plans goals) (ended (all_moved time_step rs plans) goals)).fleet) are-passed

  pub all-planned : (plans : List (Option Vec3)) → length plans ≡ most_agents → close_verdict time_step rs plans ≡ passed
      → (i : ℕ) → i < length rs → is_some (get_or plans i None) ≡ true
  unfolding close_verdict
  all-planned plans long are-passed i below =
      let front = take (length rs) plans in
      let parts = both-passed (refused_at (first_bad unplanned 0 front) Unplanned) (refused_at (first_bad astray 0 (arrivals time_step rs plans)) PositionNotFinite) are-passed in
      let none = nothing-found (first_bad unplanned 0 front) Unplanned parts.0 in
      let within : i < length front = omega (arith, length-take-le (length rs) plans (omega arith)) in
      sym (ap (λ (plan : Option Vec3). is_some plan) (get_or-take (length rs) plans i None below))
      ∙ not-false (is_some (get_or front i None)) (none-bad unplanned 0 front none i None within)

  pub plan-answer : (plans goals : List (Option Vec3)) (index : ℕ) (scratch : List Float)
      → (step (state plans goals) (Call.plan index scratch)).answer ≡ answer_by (index_among (length rs) index) (reply_for time_step rule rs index (length scratch))
  unfolding step plan_call plan_in plan_open state has_agent
  plan-answer plans goals index scratch =
      answered-by (index_among (length rs) index) (state plans goals) index (reply_for time_step rule rs index (length scratch))

  pub dropped : (plans goals : List (Option Vec3)) → (step (state plans goals) Call.drop).fleet ≡ ended rs goals
  unfolding step drop_call opened settled state
  dropped plans goals = refl
