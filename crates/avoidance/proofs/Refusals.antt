-- The velocity call answers each number exactly when document 01 says, and the promise leaves one reply and one scratch.
--     by-conditions: the refusal is the one of the first condition that holds, for the layers above
use mathlib.Core.Path.{◌≡◌, refl, sym, ap, ◌∙◌}
use mathlib.Core.Bool.{Bool, true, false, not, cond}
use mathlib.Core.List.{List, [], ◌∷◌}
use mathlib.Core.Logic.{◌↔◌}
use Prim.Native.Nat.{ℕ, zero, suc}
use native.Mathlib.Omega.{arith}
use lib.Ieee.{Float}
use Rattle.vectors.specs.Promise.{determined}
use Rattle.vectors.specs.declared.Vec3.{Vec3}
use Rattle.vectors.specs.Vec3.{finite_vec, plus_zeros}
use Rattle.refusals.specs.declared.Refusal.TheVariants as refusal
use Rattle.refusals.specs.Conditions.{first_holding, is_found, some, marked, first_bad}
use Rattle.refusals.specs.Verdict.{◌⊳◌, refused_if, Verdict}
use Rattle.refusals.proofs.Conditions.{no_place}
use Rattle.refusals.proofs.Verdicts.{said, Says, then, held-says, found-says}
use Rattle.solver.specs.declared.Plane.{Plane}
use Rattle.solver.specs.declared.Outcome.{Outcome}
use Rattle.solver.specs.declared.Outcome.TheVariants.{Feasible, Infeasible, BadClamp}
use Rattle.solver.specs.Solve.{solve}
use Rattle.requests.specs.declared.Request.{Request}
use Rattle.requests.specs.Checks.{checks}
use Rattle.requests.proofs.ReplyLaws.{refused_with, reply-says, numbered, unrefused}
use Rattle.requests.proofs.checks.Says.{checks-say}
use Rattle.planes.specs.Planes.{planes_of_call, bad_plane, first_unseen}
use Rattle.avoidance.specs.Velocity.{answered_with, outcome_reply, reply_of, planes_verdict, planned_reply, velocity_call}
use Rattle.avoidance.specs.Conditions.{bad_clamp, velocity_conditions}
use Rattle.avoidance.specs.Claims.{RefusedExactly, AnsweredExactly, ScratchUnread, SameCall}
use Rattle.std.specs.Prelude.{Option, Some, None, Ok, Err}

planes-say : (planes : List Plane) → Says (planes_verdict planes) ((6, some (marked bad_plane 0 planes)) ∷ [])
unfolding planes_verdict
planes-say planes = found-says (first_bad bad_plane 0 planes) refusal.PlaneNotFinite 6 _ (λ neighbour. refl) refl

-- 18, and then 7
abbrev late_verdict : Bool → ℕ → Vec3 → Verdict
late_verdict clamp plane value = refused_if clamp (refusal.BadClamp plane) ⊳ refused_if (not (finite_vec value)) refusal.NoVelocity

late-says : (clamp : Bool) (plane : ℕ) (value : Vec3) → Says (late_verdict clamp plane value) ((18, clamp) ∷ (7, not (finite_vec value)) ∷ [])
late-says clamp plane value =
    let unfinite = refused_if (not (finite_vec value)) refusal.NoVelocity in
    then (refused_if clamp (refusal.BadClamp plane)) unfinite ((18, clamp) ∷ []) _ (held-says clamp (refusal.BadClamp plane)) (held-says (not (finite_vec value)) refusal.NoVelocity)

valued-says : (value : Vec3) (relaxed unseen : Option ℕ) → refused_with (answered_with value relaxed unseen) ≡ said (late_verdict false 0 value)
unfolding answered_with
valued-says value relaxed unseen = go (finite_vec value)
  where
    go : (b : Bool) → refused_with (cond b (Ok (record { velocity = plus_zeros value; relaxed = relaxed; unseen = unseen })) (Err refusal.NoVelocity)) ≡ said (refused_if (not b) refusal.NoVelocity)
    go true = refl
    go false = refl

solution-says : (outcome : Outcome) (value : Vec3) (unseen : Option ℕ) → refused_with (outcome_reply outcome value unseen) ≡ first_holding ((18, bad_clamp outcome) ∷ (7, not (finite_vec value)) ∷ [])
unfolding outcome_reply bad_clamp
solution-says (Feasible best) value unseen = valued-says value None unseen ∙ late-says false 0 value
solution-says (Infeasible failure) value unseen = valued-says value (Some failure.index) unseen ∙ late-says false 0 value
solution-says (BadClamp plane) value unseen = late-says true plane value

-- the refusal is the one of the first condition that holds
pub by-conditions : (request : Request) (neighbours : List Float) (k : ℕ) → refused_with (velocity_call request neighbours k) ≡ first_holding (velocity_conditions request neighbours k)
unfolding velocity_call planned_reply reply_of velocity_conditions
by-conditions request neighbours k =
    let planes = planes_of_call request neighbours in
    let solution = solve planes request.max_speed request.preferred in
    reply-says (checks request neighbours k) _ _ ((6, some (marked bad_plane 0 planes)) ∷ (18, bad_clamp solution.outcome) ∷ (7, not (finite_vec solution.value)) ∷ []) (checks-say request neighbours k)
    (reply-says (planes_verdict planes) (reply_of solution (first_unseen request neighbours)) ((6, some (marked bad_plane 0 planes)) ∷ []) _ (planes-say planes) (solution-says solution.outcome solution.value (first_unseen request neighbours)))

-- ---- the claims

pub refused-exactly : RefusedExactly
refused-exactly request neighbours k zero above = absurd (omega arith)
refused-exactly request neighbours k (suc n) above =
    let (to, from) = numbered (velocity_call request neighbours k) n in
    (λ e. sym (by-conditions request neighbours k) ∙ to e, λ h. from (by-conditions request neighbours k ∙ h))

none-holds : (cs : List (ℕ × Bool)) → (first_holding cs ≡ None) ↔ (some cs ≡ false)
none-holds cs = go (first_holding cs)
  where
    go : (found : Option ℕ) → (found ≡ None) ↔ (is_found found ≡ false)
    go (Some n) = (λ e. no_place (sym e), λ e. let z : ◌≡◌ {A = ℕ} 0 1 = cc in absurd (omega arith))
    go None = (λ e. refl, λ e. refl)

pub answered-exactly : AnsweredExactly
answered-exactly request neighbours k =
    let (to, from) = unrefused (velocity_call request neighbours k) in
    let (some-not, none) = none-holds (velocity_conditions request neighbours k) in
    (λ e. some-not (sym (by-conditions request neighbours k) ∙ to e), λ e. from (by-conditions request neighbours k ∙ none e))

-- ---- the promise

pub scratch-unread : ScratchUnread
scratch-unread request neighbours scratch scratch' after after' reply reply' same (answer, left) (answer', left') = answer ∙ ap (velocity_call request neighbours) same ∙ sym answer'

pub same-call : SameCall
same-call request neighbours scratch after after' reply reply' (answer, left) (answer', left') = (determined answer answer', determined left left')
