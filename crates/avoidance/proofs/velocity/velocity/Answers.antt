-- `velocity` refuses as the checks do, and otherwise hands on `planned`, whose part of the scratch is the first of it.
use mathlib.Core.Path.{◌≡◌, sym, ap, ◌∙◌}
use mathlib.Core.List.{List, [], ◌++◌, append-nil}
use Prim.Native.Nat.{ℕ, ◌*◌, ◌/◌, ◌≤◌}
use native.Mathlib.Nat.{le_of_eq}
use lib.Ieee.{Float}
use lib.ListN.{length, take, drop, replicate, drop_of_length-le}
use lib.Seq.{length-take-le}
use Rattle.vectors.specs.Number.{zero}
use Rattle.solver.specs.declared.Plane.{Plane}
use Rattle.solver.specs.Lent.{numbers_of_planes}
use Rattle.requests.specs.Reply.{Reply}
use Rattle.requests.specs.Checks.{checks}
use Rattle.requests.proofs.checks.Passed.{passed-fits}
use Rattle.planes.specs.Planes.{planes_of_call}
use Rattle.avoidance.specs.Velocity.{velocity_call, planned_scratch, scratch_after}
use Rattle.avoidance.proofs.velocity.velocity.Goals as goal
use Rattle.std.proofs.Common.{rules}
use Rattle.std.specs.Prelude.{Ok, Err}
use Rattle.refusals.specs.Verdict.{passed}

-- what is left of the first numbers, and the rest of scratch, are what is left of all of it
rejoined : (reply : Reply) (n : ℕ) (planes : List Plane) (scratch : List Float) → 12 * n ≤ length scratch
    → planned_scratch reply n planes (take (12 * n) scratch) ++ drop (12 * n) scratch ≡ planned_scratch reply n planes scratch
unfolding planned_scratch
rejoined reply n planes scratch long = go reply
  where
    part-ends : drop (12 * n) (take (12 * n) scratch) ≡ []
    part-ends = drop_of_length-le (take (12 * n) scratch) (le_of_eq (length-take-le (12 * n) scratch long))

    after : (front : List Float) → front ++ drop (12 * n) (take (12 * n) scratch) ++ drop (12 * n) scratch ≡ front ++ drop (12 * n) scratch
    after front = ap (λ (xs : List Float). xs ++ drop (12 * n) scratch) (ap (λ (xs : List Float). front ++ xs) part-ends ∙ append-nil front)

    go : (reply : Reply) → planned_scratch reply n planes (take (12 * n) scratch) ++ drop (12 * n) scratch ≡ planned_scratch reply n planes scratch
    go (Ok course) = after (numbers_of_planes planes ++ replicate (6 * n) zero)
    go (Err refusal) = after (replicate (12 * n) zero)

pub returns-in_err-checks : goal.returns-in_err-checks
unfolding velocity_call scratch_after
returns-in_err-checks c = search rules

pub slice_bounds-planned-end : goal.slice_bounds-planned-end
slice_bounds-planned-end c =
    let are-passed : checks c.args.request c.args.neighbours.now (length c.args.scratch.now) ≡ passed = sym c.checks.ensures ∙ c.in_ok-checks.was in
    let long : 12 * (length c.args.neighbours.now / 8) ≤ length c.args.scratch.now = passed-fits c.args.request c.args.neighbours.now (length c.args.scratch.now) are-passed in
    long

pub slice_bounds-planned-end-2 : goal.slice_bounds-planned-end-2
slice_bounds-planned-end-2 c =
    let are-passed : checks c.args.request c.args.neighbours.now (length c.args.scratch.now) ≡ passed = sym c.checks.ensures ∙ c.in_ok-checks.was in
    let long : 12 * (length c.args.neighbours.now / 8) ≤ length c.args.scratch.now = passed-fits c.args.request c.args.neighbours.now (length c.args.scratch.now) are-passed in
    sym (length-take-le _ _ long)

pub planned-requires : goal.planned-requires
planned-requires c =
    let are-passed : checks c.args.request c.args.neighbours.now (length c.args.scratch.now) ≡ passed = sym c.checks.ensures ∙ c.in_ok-checks.was in
    let long : 12 * (length c.args.neighbours.now / 8) ≤ length c.args.scratch.now = passed-fits c.args.request c.args.neighbours.now (length c.args.scratch.now) are-passed in
    length-take-le _ _ long

pub returns : goal.returns
unfolding velocity_call scratch_after
returns c =
    let are-passed : checks c.args.request c.args.neighbours.now (length c.args.scratch.now) ≡ passed = sym c.checks.ensures ∙ c.in_ok-checks.was in
    let long : 12 * (length c.args.neighbours.now / 8) ≤ length c.args.scratch.now = passed-fits c.args.request c.args.neighbours.now (length c.args.scratch.now) are-passed in
    let request = c.args.request in
    let neighbours = c.args.neighbours.now in
    let scratch = c.args.scratch.now in
    let n = length neighbours / 8 in
    let planes = planes_of_call request neighbours in
    let replied = c.planned.ensures.answer in record {
      answer = rw are-passed replied;
      scratch = rw are-passed
          (ap (λ (xs : List Float). xs ++ drop (12 * n) scratch) c.planned.ensures.scratch
          ∙ rejoined c.planned.result n planes scratch long
          ∙ ap (λ (r : Reply). planned_scratch r n planes scratch) replied);
    }
