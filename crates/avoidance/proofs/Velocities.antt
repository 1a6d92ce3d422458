-- The velocity of an answer is finite; that of any reply has no -0, and is a vector of binary32 numbers where the preferred velocity is; from which plane an
-- answer is relaxed; and the neighbour that it names is the first that is unseen.
use mathlib.Core.Path.{◌≡◌, refl, sym, ap, ◌∙◌}
use mathlib.Core.Bool.{Bool, true, false, cond}
use mathlib.Core.List.{List}
use Prim.Native.Nat.{ℕ}
use lib.Ieee.{Float}
use Rattle.vectors.specs.declared.Vec3.{Vec3}
use Rattle.vectors.specs.Vec3.{finite_vec, plus_zeros, IsBinary32}
use Rattle.vectors.proofs.Truth.{no_truth}
use Rattle.vectors.proofs.Stored.{zero_is, plus-zeros-is, plus-zeros-finite, PlusZeros, zero-plus, plus-zeros-plus}
use Rattle.refusals.specs.declared.Refusal.{Refusal}
use Rattle.refusals.specs.declared.Refusal.TheVariants as refusal
use Rattle.refusals.specs.Verdict.{settled_by, Verdict}
use Rattle.refusals.proofs.Conditions.{no_place, same_place}
use Rattle.solver.specs.declared.Outcome.{Outcome}
use Rattle.solver.specs.declared.Outcome.TheVariants.{Feasible, Infeasible, BadClamp}
use Rattle.solver.specs.Solve.{solve}
use Rattle.solver.specs.Claims.{infeasible_at}
use Rattle.solver.proofs.solve.Binary32.{solve-is-binary32}
use Rattle.solver.proofs.Why.{solve-reports}
use Rattle.requests.specs.declared.Request.{Request}
use Rattle.requests.specs.Reply.{is_answered, velocity_of, relaxed_of, unseen_of, Reply}
use Rattle.requests.specs.Checks.{checks}
use Rattle.planes.specs.Planes.{planes_of_call, first_unseen}
use Rattle.avoidance.specs.Velocity.{answered_with, outcome_reply, reply_of, planes_verdict, planned_reply, velocity_call}
use Rattle.avoidance.specs.Claims.{AnswerFinite, AnswerIsBinary32, NoMinusZero, RelaxedExactly}
use Rattle.std.specs.Prelude.{Option, Some, None, Ok, Err}

-- where an answer is relaxed
abbrev relaxed_by : Outcome → Option ℕ
relaxed_by (Feasible best) = None
relaxed_by (Infeasible failure) = Some failure.index
relaxed_by (BadClamp plane) = None

-- what holds of every refusal, and of the answer with the solver's value where that is finite, holds of the reply
module _ (P : Reply → Type 0) (refused : (r : Refusal) → P (Err r)) where
  settled : (v : Verdict) (reply : Reply) → P reply → P (settled_by v Err reply)
  settled (Ok _) reply p = p
  settled (Err r) reply p = refused r

  valued : (value : Vec3) (relaxed unseen : Option ℕ) → (finite_vec value ≡ true → P (Ok (record { velocity = plus_zeros value; relaxed = relaxed; unseen = unseen }))) → P (answered_with value relaxed unseen)
  unfolding answered_with
  valued value relaxed unseen answer = go (finite_vec value) refl
    where
      go : (b : Bool) → finite_vec value ≡ b → P (cond b (Ok (record { velocity = plus_zeros value; relaxed = relaxed; unseen = unseen })) (Err refusal.NoVelocity))
      go true is = answer is
      go false is = refused refusal.NoVelocity

  replied : (outcome : Outcome) (value : Vec3) (unseen : Option ℕ) → (finite_vec value ≡ true → P (Ok (record { velocity = plus_zeros value; relaxed = relaxed_by outcome; unseen = unseen }))) → P (outcome_reply outcome value unseen)
  unfolding outcome_reply
  replied (Feasible best) value unseen answer = valued value None unseen answer
  replied (Infeasible failure) value unseen answer = valued value (Some failure.index) unseen answer
  replied (BadClamp plane) value unseen answer = refused (refusal.BadClamp plane)

  called : (request : Request) (neighbours : List Float) (k : ℕ)
      → (let solution = solve (planes_of_call request neighbours) request.max_speed request.preferred in finite_vec solution.value ≡ true → P (Ok (record { velocity = plus_zeros solution.value; relaxed = relaxed_by solution.outcome; unseen = first_unseen request neighbours })))
      → P (velocity_call request neighbours k)
  unfolding velocity_call planned_reply reply_of
  called request neighbours k answer = settled (checks request neighbours k) _ (settled (planes_verdict (planes_of_call request neighbours)) _ (replied _ _ (first_unseen request neighbours) answer))

pub answer-finite : AnswerFinite
answer-finite request neighbours k =
    called (λ (reply : Reply). is_answered reply ≡ true → finite_vec (velocity_of reply) ≡ true) (λ r e. no_truth e) request neighbours k (λ value-finite e. plus-zeros-finite _ value-finite)

pub answer-is-binary32 : AnswerIsBinary32
answer-is-binary32 request neighbours k is =
    called (λ (reply : Reply). IsBinary32 (velocity_of reply)) (λ r. zero_is) request neighbours k (λ value-finite. plus-zeros-is _ (solve-is-binary32 _ _ _ is))

pub no-minus-zero : NoMinusZero
no-minus-zero request neighbours k =
    called (λ (reply : Reply). PlusZeros (velocity_of reply)) (λ r. zero-plus) request neighbours k (λ value-finite. plus-zeros-plus _)

pub answer-unseen : (request : Request) (neighbours : List Float) (k : ℕ) → is_answered (velocity_call request neighbours k) ≡ true → unseen_of (velocity_call request neighbours k) ≡ first_unseen request neighbours
answer-unseen request neighbours k =
    called (λ (reply : Reply). is_answered reply ≡ true → unseen_of reply ≡ first_unseen request neighbours) (λ r e. no_truth e) request neighbours k (λ value-finite e. refl)

-- ---- the plane from which an answer is relaxed

relaxed-at : (outcome : Outcome) (k : ℕ) → relaxed_by outcome ≡ Some k → (v : Vec3) × (outcome ≡ infeasible_at k v)
relaxed-at (Feasible best) k e = no_place e
relaxed-at (Infeasible failure) k e = (failure.value, ap (λ (index : ℕ). infeasible_at index failure.value) (same_place e))
relaxed-at (BadClamp plane) k e = no_place e

pub relaxed-exactly : RelaxedExactly
relaxed-exactly request neighbours k answered plane =
    let planes = planes_of_call request neighbours in
    let reports = solve-reports planes request.max_speed request.preferred in
    let is = called (λ (reply : Reply). is_answered reply ≡ true → relaxed_of reply ≡ relaxed_by (solve planes request.max_speed request.preferred).outcome) (λ r e. no_truth e) request neighbours k (λ value-finite e. refl) answered in
    (λ e. relaxed-at _ plane (ap relaxed_by (sym reports) ∙ sym is ∙ e), λ (v, failed). is ∙ ap relaxed_by (reports ∙ failed))
