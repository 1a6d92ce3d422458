-- What is stored stays so, and so does what is held: by a goal, a plan and a tick's end, one record and one vector at a time and in lists.
--     goal-stored, goals-stored, moved-stored; none-storable, held-storable; goal-storable, plans-storable
--     none-past, held-past, plans-past: nothing is held past the last agent
use mathlib.Core.Path.{◌≡◌, refl, sym, ap, ◌∙◌, subst}
use mathlib.Core.Bool.{Bool, true, false, cond}
use mathlib.Core.List.{List}
use Prim.Native.Nat.{ℕ, zero, suc, ◌+◌, ◌<◌, ◌≤◌}
use native.Mathlib.Omega.{arith}
use lib.Ieee.{Float}
use lib.ListN.{length, get_or, take, replicate, length-set, length-replicate, get_or-replicate}
use Rattle.std.proofs.lemmas.List.{get_or-set_other}
use borrow.Author.Tests.{not-false}
use Rattle.std.specs.Prelude.{Option, Some, None}
use Rattle.vectors.specs.declared.Vec3.{Vec3}
use Rattle.vectors.specs.Number.{finite}
use Rattle.vectors.specs.Vec3.{◌*ᵥ◌, zero_vec, finite_vec, IsBinary32}
use Rattle.vectors.proofs.Finite.{finite-whole}
use Rattle.vectors.proofs.Stored.{sum_is}
use Rattle.refusals.specs.declared.Refusal.TheVariants.{NotFinite, Unplanned, PositionNotFinite}
use Rattle.refusals.specs.Conditions.{first_bad}
use Rattle.refusals.specs.Verdict.{refused_at, passed}
use Rattle.refusals.proofs.Conditions.{no_place, none-bad}
use Rattle.refusals.proofs.Verdicts.{both-passed, nothing-found}
use Rattle.requests.specs.Reply.{is_answered, velocity_of, Reply}
use Rattle.requests.proofs.ReplyLaws.{renamed-answered, renamed-velocity}
use Rattle.avoidance.specs.Velocity.{velocity_call}
use Rattle.avoidance.proofs.Velocities.{answer-finite, answer-is-binary32}
use Rattle.records.specs.declared.Record.{Record}
use Rattle.records.specs.Record.{most_agents, goal_word, blank, position_of, with_goal}
use Rattle.records.specs.Checks.{index_among}
use Rattle.records.proofs.Kept.{goal-words, moved-words, goal-passes, moved_passes}
use Rattle.planner.specs.declared.Rule.{Rule}
use Rattle.planner.specs.Plan.{request_for, own_record, neighbour_indices, neighbours_of, reply_for}
use Rattle.planner.proofs.Replies.{reply-is, preferred-is-binary32}
use Rattle.fleet.specs.Table.{nothing_held}
use Rattle.fleet.specs.Tick.{goal_fault, goal_verdict, with_held, goal_taken, goals_taken, unplanned, arrival, astray, moved_by, arrivals, all_moved, close_verdict}
use Rattle.fleet.specs.Plan.{plans_after}
use Rattle.fleet.specs.Sound.{Stored, Storable, AllStorable, NoneFrom}
use Rattle.fleet.proofs.Lists.{Every, every_set}
use Rattle.fleet.proofs.Each.{each_at, each-length, each-every}

-- ---- lists of what is held

pub none-storable : AllStorable nothing_held
unfolding nothing_held
none-storable = record {
  many = length-replicate {A = Option Vec3} most_agents None;
  each = λ index h. subst Storable (sym (get_or-replicate most_agents index None None h)) tt;
}

pub held-storable : (slots : List (Option Vec3)) (index : ℕ) (v : Vec3) → AllStorable slots → Storable (Some v) → AllStorable (with_held slots index v)
unfolding with_held
held-storable slots index v all ok =
    let many : length (with_held slots index v) ≡ most_agents = length-set slots index (Some v) ∙ all.many in
    record {
      many = many;
      each = λ i h. every_set Storable None slots index (Some v) (λ j k. all.each j (omega (arith, k, all.many))) ok i (omega (arith, h, many));
    }

-- what is held for an agent leaves the places past the last one as they were
pub held-past : (slots : List (Option Vec3)) (count index : ℕ) (v : Vec3) → index < count → NoneFrom count slots → NoneFrom count (with_held slots index v)
unfolding with_held
held-past slots count index v among none i past = get_or-set_other slots index i (Some v) None (λ same. omega (arith, among, past, same)) ∙ none i past

pub none-past : (count : ℕ) → NoneFrom count nothing_held
unfolding nothing_held
none-past count i past = replicate-none most_agents i
  where
    nothing : Option Vec3
    nothing = None

    replicate-none : (n i : ℕ) → get_or (replicate n nothing) i nothing ≡ nothing
    replicate-none zero i = refl
    replicate-none (suc n) zero = refl
    replicate-none (suc n) (suc i) = replicate-none n i

-- ---- what comes to be held

fault-finite : (v : Vec3) → goal_fault v ≡ None → finite_vec v ≡ true
unfolding goal_fault
fault-finite v = go (finite v.x) (finite v.y) (finite v.z) (finite-whole v)
  where
    go : (a b c : Bool) → (a ≡ true → b ≡ true → c ≡ true → finite_vec v ≡ true)
        → cond a (cond b (cond c None (Some (goal_word + 2))) (Some (goal_word + 1))) (Some goal_word) ≡ None → finite_vec v ≡ true
    go true true true whole e = whole refl refl refl
    go true true false whole e = no_place (sym e)
    go true false c whole e = no_place (sym e)
    go false b c whole e = no_place (sym e)

-- a goal that is accepted
pub goal-storable : (count index : ℕ) (v : Vec3) → goal_verdict count index v ≡ passed → IsBinary32 v → Storable (Some v)
unfolding goal_verdict
goal-storable count index v are-passed is =
    (fault-finite v (nothing-found (goal_fault v) NotFinite (both-passed (index_among count index) (refused_at (goal_fault v) NotFinite) are-passed).1), is)

-- a velocity that is answered
answer-storable : (time_step : Float) (rule : Rule) (rs : List Record) (index k : ℕ) → is_answered (reply_for time_step rule rs index k) ≡ true
    → Storable (Some (velocity_of (reply_for time_step rule rs index k)))
answer-storable time_step rule rs index k answered =
    let names = neighbour_indices rule rs index in
    let request = request_for (own_record rs index) time_step in
    let neighbours = neighbours_of rule rs index in
    let call = velocity_call request neighbours k in
    let is = reply-is time_step rule rs index k in
    subst (λ (v : Vec3). Storable (Some v)) (sym (ap velocity_of is ∙ renamed-velocity names call))
    (answer-finite request neighbours k (sym (ap is_answered is ∙ renamed-answered names call) ∙ answered), answer-is-binary32 request neighbours k (preferred-is-binary32 (own_record rs index) time_step))

pub plans-storable : (time_step : Float) (rule : Rule) (rs : List Record) (index k : ℕ) (plans : List (Option Vec3)) → AllStorable plans
    → AllStorable (plans_after plans index (reply_for time_step rule rs index k))
unfolding plans_after
plans-storable time_step rule rs index k plans all = go (is_answered reply) refl
  where
    reply : Reply
    reply = reply_for time_step rule rs index k

    go : (b : Bool) → is_answered reply ≡ b → AllStorable (cond b (with_held plans index (velocity_of reply)) plans)
    go true is = held-storable plans index (velocity_of reply) all (answer-storable time_step rule rs index k is)
    go false is = all

pub plans-past : (time_step : Float) (rule : Rule) (rs : List Record) (index k : ℕ) (plans : List (Option Vec3)) → index < length rs → NoneFrom (length rs) plans
    → NoneFrom (length rs) (plans_after plans index (reply_for time_step rule rs index k))
unfolding plans_after
plans-past time_step rule rs index k plans among none = go (is_answered (reply_for time_step rule rs index k))
  where
    go : (b : Bool) → NoneFrom (length rs) (cond b (with_held plans index (velocity_of (reply_for time_step rule rs index k))) plans)
    go true = held-past plans (length rs) index (velocity_of (reply_for time_step rule rs index k)) among none
    go false = none

-- ---- one record

pub goal-stored : (r : Record) (goal : Vec3) → Stored r → Storable (Some goal) → Stored (with_goal goal r)
goal-stored r goal ok (goal-finite, is) = record { words = goal-words r goal ∙ ok.words; passes = goal-passes r goal ok.passes goal-finite is }

taken-stored : (r : Record) (goal : Option Vec3) → Stored r → Storable goal → Stored (goal_taken r goal)
unfolding goal_taken
taken-stored r None ok none = ok
taken-stored r (Some goal) ok storable = goal-stored r goal ok storable

one-moved : (time_step : Float) (r : Record) (plan : Option Vec3) → Stored r → Storable plan → finite_vec (arrival time_step r plan) ≡ true → Stored (moved_by time_step r plan)
unfolding moved_by arrival
one-moved time_step r None ok none arrives = ok
one-moved time_step r (Some velocity) ok (velocity-finite, is) arrives =
    let there = arrival time_step r (Some velocity) in
    record {
      words = moved-words r there velocity ∙ ok.words;
      passes = moved_passes r there velocity ok.passes arrives (sum_is (position_of r) (velocity *ᵥ time_step)) velocity-finite is;
    }

-- ---- lists of records

module _ (rs : List Record) (slots : List (Option Vec3)) (few : length rs ≤ most_agents) (stored : Every Stored blank rs) (storable : AllStorable slots) where
  abbrev held : ℕ → Option Vec3
  held i = get_or slots i None

  room : length rs ≤ length slots
  room = omega (arith, few, storable.many)

  holds : (i : ℕ) → i < length rs → Storable (held i)
  holds i h = storable.each i (omega (arith, h, few))

  pub goals-stored : Every Stored blank (goals_taken rs slots)
  unfolding goals_taken
  goals-stored =
      each-every goal_taken Stored rs slots blank None blank room
      (λ i h. taken-stored (get_or rs i blank) (held i) (stored i h) (holds i h))

  -- no arrival is astray
  arrives : (time_step : Float) → close_verdict time_step rs slots ≡ passed → (i : ℕ) → i < length rs → finite_vec (arrival time_step (get_or rs i blank) (held i)) ≡ true
  unfolding close_verdict arrivals
  arrives time_step are-passed i h =
      let planless = first_bad unplanned 0 (take (length rs) slots) in
      let lost = first_bad astray 0 (arrivals time_step rs slots) in
      let none = nothing-found lost PositionNotFinite (both-passed (refused_at planless Unplanned) (refused_at lost PositionNotFinite) are-passed).1 in
      let within : i < length (arrivals time_step rs slots) = omega (arith, h, each-length (arrival time_step) rs slots room) in
      sym (ap finite_vec (each_at (arrival time_step) rs slots i blank None zero_vec h (omega (arith, h, room))))
      ∙ not-false (finite_vec (get_or (arrivals time_step rs slots) i zero_vec)) (none-bad astray 0 (arrivals time_step rs slots) none i zero_vec within)

  pub moved-stored : (time_step : Float) → close_verdict time_step rs slots ≡ passed → Every Stored blank (all_moved time_step rs slots)
  unfolding all_moved
  moved-stored time_step are-passed =
      each-every (moved_by time_step) Stored rs slots blank None blank room
      (λ i h. one-moved time_step (get_or rs i blank) (held i) (stored i h) (holds i h) (arrives time_step are-passed i h))
