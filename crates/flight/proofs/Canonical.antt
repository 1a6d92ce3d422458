-- A tick in one piece is demand 3's canonical run, or leaves the fleet as it was.
--     one-tick-canonical: accepted, its fleet is the one after the opening and the canonical run with no goals
--     one-tick-refused: refused, its fleet is the very one that was given, where that was in a tick or at rest
--     one-tick-kept: every fleet made by the calls is so
use mathlib.Core.Path.{◌≡◌, refl, sym, ap, ◌∙◌, subst}
use mathlib.Core.Bool.{Bool, true, false}
use mathlib.Core.List.{List, []}
use Prim.Native.Nat.{ℕ, zero, suc}
use lib.ListN.{length}
use lib.Ieee.{Float}
use Rattle.vectors.proofs.Truth.{no_truth}
use Rattle.requests.specs.Checks.{full_scratch}
use Rattle.planner.specs.declared.Rule.{Rule}
use Rattle.fleet.specs.declared.Fleet.{Fleet}
use Rattle.fleet.specs.declared.Called.{Called}
use Rattle.fleet.specs.Table.{agents, fleet_of}
use Rattle.fleet.specs.Tick.{open_call, close_call}
use Rattle.fleet.specs.Plan.{plan_call}
use Rattle.fleet.specs.Runs.{after, in_order, canonical}
use Rattle.fleet.proofs.Sound.{sound_empty, sound-run}
use Rattle.fleet.proofs.InTurn.{in-order-none, in-order-more, canonical-closes, open-refused, close-refused, open-shut, started, ButPlans, unaltered, alters-more, plan-alters, dropped-back}
use Rattle.fleet.proofs.Resting.{rests-empty, rests-run}
use Rattle.flight.specs.Tick.{is_refused, unless_refused, first_planned, or_dropped, flown, one_tick}
use Rattle.flight.specs.Claims.{OneTickCanonical, OneTickRefused, OneTickKept}
use Rattle.flight.proofs.Steps.{not-refused, is-refused, answers-zero, answers-more, handed-on, goes_on, went_on, is-dropped, not-dropped, same-verdict, not_opened, is-opened}

-- ---- after an opening

module _ (opened : Called) where
  -- plans of which none is refused are those of the run
  planned-run : (n : ℕ) (scratch : List Float) → length scratch ≡ full_scratch → is_refused (first_planned n opened) ≡ false
      → (first_planned n opened).fleet ≡ after opened.fleet (in_order 0 n scratch)
  unfolding first_planned
  planned-run zero scratch long goes = sym (in-order-none opened.fleet scratch)
  planned-run (suc n) scratch long goes =
      let before = first_planned n opened in
      let still : is_refused before ≡ false = went_on before (λ fleet. plan_call fleet n full_scratch) goes in
      sym (ap (λ (last : Called). last.fleet) (goes_on before (λ fleet. plan_call fleet n full_scratch) still))
      ∙ ap (λ (fleet : Fleet). (plan_call fleet n full_scratch).fleet) (planned-run n scratch long still)
      ∙ ap (λ (k : ℕ). (plan_call (after opened.fleet (in_order 0 n scratch)) n k).fleet) (sym long)
      ∙ sym (in-order-more opened.fleet n scratch)

  -- so far nothing but plans is altered, and a call that is made alters no more
  then-alters : (last : Called) (call : Fleet → Called) → ButPlans opened.fleet last.fleet
      → (is_refused last ≡ false → ButPlans opened.fleet (call last.fleet).fleet) → ButPlans opened.fleet (unless_refused last call).fleet
  then-alters last call before after_call = go (is_refused last) refl
    where
      go : (b : Bool) → is_refused last ≡ b → ButPlans opened.fleet (unless_refused last call).fleet
      go true is = subst (λ (next : Called). ButPlans opened.fleet next.fleet) (handed-on last call is) before
      go false is = subst (λ (next : Called). ButPlans opened.fleet next.fleet) (goes_on last call is) (after_call is)

  planned-alters : (n : ℕ) → ButPlans opened.fleet (first_planned n opened).fleet
  unfolding first_planned
  planned-alters zero = unaltered opened.fleet
  planned-alters (suc n) =
      let before = planned-alters n in
      then-alters (first_planned n opened) (λ fleet. plan_call fleet n full_scratch) before (λ is. alters-more before (plan-alters (first_planned n opened).fleet n full_scratch))

  abbrev planned : Called
  planned = first_planned (length (agents opened.fleet)) opened

  abbrev closed : Called
  closed = unless_refused planned close_call

  closed_run : (scratch : List Float) → length scratch ≡ full_scratch → is_refused closed ≡ false → closed.fleet ≡ after opened.fleet (canonical opened.fleet scratch [])
  closed_run scratch long goes =
      let still : is_refused planned ≡ false = went_on planned close_call goes in
      sym (ap (λ (last : Called). last.fleet) (goes_on planned close_call still))
      ∙ ap (λ (fleet : Fleet). (close_call fleet).fleet) (planned-run (length (agents opened.fleet)) scratch long still)
      ∙ sym (canonical-closes opened.fleet scratch)

  closed-alters : is_refused closed ≡ true → ButPlans opened.fleet closed.fleet
  closed-alters refused =
      let before = planned-alters (length (agents opened.fleet)) in
      then-alters planned close_call before
      (λ is.
      let fails = answers-more (close_call planned.fleet) (ap is_refused (goes_on planned close_call is) ∙ refused) in
      subst (ButPlans opened.fleet) (sym (close-refused planned.fleet fails)) before)

-- ---- the tick

module _ (time_step : Float) (rule : Rule) (fleet : Fleet) where
  abbrev opened : Called
  opened = open_call fleet time_step rule

  -- what follows an opening that is accepted
  flown-is : is_refused opened ≡ false → or_dropped (closed opened) ≡ one_tick time_step rule fleet
  unfolding flown
  flown-is is = is-opened fleet time_step rule opened refl is

  verdict-is : is_refused opened ≡ false → is_refused (closed opened) ≡ is_refused (one_tick time_step rule fleet)
  verdict-is is = sym (same-verdict (closed opened)) ∙ ap is_refused (flown-is is)

  canonical-here : (scratch : List Float) → length scratch ≡ full_scratch → is_refused (one_tick time_step rule fleet) ≡ false
      → (one_tick time_step rule fleet).fleet ≡ after opened.fleet (canonical opened.fleet scratch [])
  canonical-here scratch long goes = go (is_refused opened) refl
    where
      go : (b : Bool) → is_refused opened ≡ b → (one_tick time_step rule fleet).fleet ≡ after opened.fleet (canonical opened.fleet scratch [])
      go true is = no_truth (sym goes ∙ sym (ap is_refused (not_opened fleet time_step rule opened refl is)) ∙ is)
      go false is =
          let closes : is_refused (closed opened) ≡ false = verdict-is is ∙ goes in
          sym (ap (λ (last : Called). last.fleet) (not-dropped (closed opened) closes ∙ flown-is is)) ∙ closed_run opened scratch long closes

pub one-tick-canonical : OneTickCanonical
one-tick-canonical time_step rule fleet scratch long answers =
    subst (λ (start : Fleet). (one_tick time_step rule fleet).fleet ≡ after start (canonical start scratch [])) (sym (ap (λ (last : Called). last.fleet) (started fleet time_step rule)))
    (canonical-here time_step rule fleet scratch long (not-refused (one_tick time_step rule fleet) answers))

pub one-tick-refused : OneTickRefused
one-tick-refused time_step rule fleet few rests refused = go (is_refused (opened time_step rule fleet)) refl
  where
    go : (b : Bool) → is_refused (opened time_step rule fleet) ≡ b → (one_tick time_step rule fleet).fleet ≡ fleet
    go true is =
        sym (ap (λ (last : Called). last.fleet) (not_opened fleet time_step rule (opened time_step rule fleet) refl is))
        ∙ open-refused fleet time_step rule (answers-more (opened time_step rule fleet) is)
    go false is =
        let start = opened time_step rule fleet in
        let opens = answers-zero start is in
        let fails : is_refused (closed start) ≡ true = verdict-is time_step rule fleet is ∙ is-refused (one_tick time_step rule fleet) refused in
        sym (ap (λ (last : Called). last.fleet) (is-dropped (closed start) fails ∙ flown-is time_step rule fleet is))
        ∙ dropped-back fleet time_step rule (closed start).fleet few opens (closed-alters start fails)
        ∙ sym (rests (open-shut fleet time_step rule opens))

pub one-tick-kept : OneTickKept
one-tick-kept calls typed time_step rule =
    one-tick-refused time_step rule (after (fleet_of []) calls) (sound-run (fleet_of []) calls sound_empty typed).few (rests-run (fleet_of []) calls rests-empty)
