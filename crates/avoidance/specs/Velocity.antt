-- The velocity call: `compute_avoiding_velocity_internal`, the documents' answers 0 to 7, 17 and 18, and what it leaves in scratch.
-- In two parts: `planes` makes the planes from the neighbours, and then there is the solver's `solve` of them.
use Rattle.std.specs.Prelude.{ℕ, ◌*◌, cond, List, ◌++◌, length, drop, replicate, Float, Option, Some, None, Ok, Err}
use Rattle.vectors.specs.declared.Vec3.{Vec3}
use Rattle.vectors.specs.Number.{zero as zero32}
use Rattle.vectors.specs.Vec3.{finite_vec, plus_zeros}
use Rattle.refusals.specs.declared.Refusal.TheVariants as refusal
use Rattle.refusals.specs.Conditions.{first_bad}
use Rattle.refusals.specs.Verdict.{refused_at, settled_by, Verdict}
use Rattle.solver.specs.declared.Plane.{Plane}
use Rattle.solver.specs.declared.Outcome.{Outcome}
use Rattle.solver.specs.declared.Outcome.TheVariants.{Feasible, Infeasible, BadClamp}
use Rattle.solver.specs.declared.Solution.{Solution}
use Rattle.solver.specs.Lent.{per_plane, scratch_for, numbers_of_planes}
use Rattle.solver.specs.Solve.{solve}
use Rattle.requests.specs.Reply.{Reply}
use Rattle.requests.specs.declared.Request.{Request}
use Rattle.requests.specs.Lent.{agent_count}
use Rattle.requests.specs.Checks.{checks}
use Rattle.planes.specs.Planes.{planes_of_call, first_unseen, bad_plane}

-- ---- the answer

-- a value that is not finite is no velocity
unfoldable pub answered_with : Vec3 → Option ℕ → Option ℕ → Reply
answered_with value relaxed unseen = cond (finite_vec value) (Ok (record { velocity = plus_zeros value; relaxed = relaxed; unseen = unseen })) (Err refusal.NoVelocity)

-- A bad clamp is refused with the plane that was being solved on. It is never a turned one, whose place would be that of the plane it
-- was turned from: the optimum is a direction there, and then there is no bad clamp (`ThreeDNeverBad`, the solver's Claims.antt).
unfoldable pub outcome_reply : Outcome → Vec3 → Option ℕ → Reply
outcome_reply (Feasible best) value unseen = answered_with value None unseen
outcome_reply (Infeasible failure) value unseen = answered_with value (Some failure.index) unseen
outcome_reply (BadClamp plane) value unseen = Err (refusal.BadClamp plane)

unfoldable pub reply_of : Solution → Option ℕ → Reply
reply_of solution unseen = outcome_reply solution.outcome solution.value unseen

-- the first plane that is not finite refuses the call
unfoldable pub planes_verdict : List Plane → Verdict
planes_verdict planes = refused_at (first_bad bad_plane 0 planes) refusal.PlaneNotFinite

-- the answer where the checks pass
unfoldable pub planned_reply : Request → List Float → Reply
planned_reply request neighbours =
    let planes = planes_of_call request neighbours in
    settled_by (planes_verdict planes) Err (reply_of (solve planes request.max_speed request.preferred) (first_unseen request neighbours))

unfoldable pub velocity_call : Request → List Float → ℕ → Reply
velocity_call request neighbours scratch_length = settled_by (checks request neighbours scratch_length) Err (planned_reply request neighbours)

-- ---- what is left in scratch

-- of n planes, where the checks pass: an answer leaves the planes in the first 6n numbers and +0 in the next, a refusal +0 in all 12n
unfoldable pub planned_scratch : Reply → ℕ → List Plane → List Float → List Float
planned_scratch (Ok course) n planes scratch = numbers_of_planes planes ++ replicate (per_plane * n) zero32 ++ drop (scratch_for n) scratch
planned_scratch (Err r) n planes scratch = replicate (scratch_for n) zero32 ++ drop (scratch_for n) scratch

-- a refusal by the checks leaves it untouched
unfoldable pub scratch_after : Request → List Float → List Float → List Float
scratch_after request neighbours scratch =
    settled_by (checks request neighbours (length scratch)) (λ r. scratch)
    (planned_scratch (planned_reply request neighbours) (agent_count neighbours) (planes_of_call request neighbours) scratch)
