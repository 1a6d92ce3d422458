-- What a velocity call on fit numbers answers.
--     fit-call: an answer, or refusal 2, 3 for the preferred velocity, 6, 18 or 7, and nothing else
use mathlib.Core.Path.{◌≡◌, refl}
use mathlib.Core.Bool.{Bool, true, false, cond}
use mathlib.Core.List.{List}
use Prim.Native.Nat.{ℕ, ◌≤◌, ◌<◌}
use lib.Ieee.{Float}
use Rattle.vectors.specs.declared.Vec3.{Vec3}
use Rattle.vectors.specs.Vec3.{finite_vec, plus_zeros}
use Rattle.refusals.specs.declared.Refusal.TheVariants.{PlaneNotFinite, NoVelocity}
use Rattle.refusals.specs.Conditions.{first_bad}
use Rattle.refusals.specs.Verdict.{settled_by, refused_at, Verdict}
use Rattle.solver.specs.declared.Outcome.{Outcome}
use Rattle.solver.specs.declared.Outcome.TheVariants.{Feasible, Infeasible, BadClamp}
use Rattle.solver.specs.Solve.{solve}
use Rattle.requests.specs.declared.Request.{Request}
use Rattle.requests.specs.Request.{preferred_place, max_speed_place}
use Rattle.requests.specs.Checks.{most_neighbours, checks}
use Rattle.requests.specs.Reply.{number, place_of, Reply}
use Rattle.requests.proofs.checks.CallNumbers.{FitRequest, FitNeighbours}
use Rattle.requests.proofs.checks.FitChecks.{FitVerdict, fit-checks}
use Rattle.planes.specs.Planes.{planes_of_call, bad_plane, first_unseen}
use Rattle.avoidance.specs.Velocity.{answered_with, outcome_reply, reply_of, planes_verdict, planned_reply, velocity_call}
use Rattle.std.specs.Prelude.{Option, Some, None, Ok, Err}

pub data FitReply (reply : Reply) : Type 0 where
  is_answer : number reply ≡ 0 → FitReply reply
  short_of : number reply ≡ 2 → FitReply reply
  far_preferred : number reply ≡ 3 → preferred_place ≤ place_of reply → place_of reply < max_speed_place → FitReply reply
  plane_not_finite : number reply ≡ 6 → FitReply reply
  bad_clamp : number reply ≡ 18 → FitReply reply
  no_velocity : number reply ≡ 7 → FitReply reply

-- ---- what is answered

checked-fit : (verdict : Verdict) (planned : Reply) → FitVerdict verdict → FitReply planned → FitReply (settled_by verdict Err planned)
checked-fit _ planned FitVerdict.passes fit = fit
checked-fit _ planned (FitVerdict.short_of needed) fit = short_of refl
checked-fit _ planned (FitVerdict.far_preferred place low high) fit = far_preferred refl low high

valued-fit : (value : Vec3) (relaxed unseen : Option ℕ) → FitReply (answered_with value relaxed unseen)
unfolding answered_with
valued-fit value relaxed unseen = go (finite_vec value)
  where
    go : (b : Bool) → FitReply (cond b (Ok (record { velocity = plus_zeros value; relaxed = relaxed; unseen = unseen })) (Err NoVelocity))
    go true = is_answer refl
    go false = no_velocity refl

solved-fit : (outcome : Outcome) (value : Vec3) (unseen : Option ℕ) → FitReply (outcome_reply outcome value unseen)
unfolding outcome_reply
solved-fit (Feasible best) value unseen = valued-fit value None unseen
solved-fit (Infeasible failure) value unseen = valued-fit value (Some failure.index) unseen
solved-fit (BadClamp plane) value unseen = bad_clamp refl

planes-fit : (found : Option ℕ) (reply : Reply) → FitReply reply → FitReply (settled_by (refused_at found PlaneNotFinite) Err reply)
planes-fit (Some neighbour) reply fit = plane_not_finite refl
planes-fit None reply fit = fit

planned-fit : (request : Request) (neighbours : List Float) → FitReply (planned_reply request neighbours)
unfolding planned_reply planes_verdict reply_of
planned-fit request neighbours =
    let planes = planes_of_call request neighbours in
    let solution = solve planes request.max_speed request.preferred in
    planes-fit (first_bad bad_plane 0 planes) (reply_of solution (first_unseen request neighbours)) (solved-fit solution.outcome solution.value (first_unseen request neighbours))

pub fit-call : (request : Request) (neighbours : List Float) (n k : ℕ) → FitRequest request → FitNeighbours n neighbours → n ≤ most_neighbours → FitReply (velocity_call request neighbours k)
unfolding velocity_call
fit-call request neighbours n k fit fits few = checked-fit (checks request neighbours k) (planned_reply request neighbours) (fit-checks request neighbours n k fit fits few) (planned-fit request neighbours)
