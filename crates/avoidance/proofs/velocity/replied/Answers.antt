-- `replied` writes the planes and solves them in place.
use mathlib.Core.Path.{◌≡◌, sym, ap, ◌∙◌}
use mathlib.Core.Bool.{true, false≢true}
use mathlib.Core.List.{List, ◌++◌}
use Prim.Native.Nat.{ℕ, ◌*◌, ◌/◌}
use native.Mathlib.Nat.{le_of_eq}
use native.Mathlib.Omega.{arith}
use lib.Ieee.{Float}
use lib.ListN.{length, drop, replicate, drop_of_length-le}
use Rattle.vectors.specs.Number.{zero}
use Rattle.solver.specs.declared.Plane.{Plane}
use Rattle.solver.specs.declared.Solution.{Solution}
use Rattle.refusals.specs.declared.Refusal.{Refusal}
use Rattle.solver.specs.Lent.{planes_of, numbers_of_planes}
use Rattle.solver.specs.FourD.{half_cleared}
use Rattle.solver.specs.Solve.{solve}
use Rattle.solver.proofs.four_d.Scratch.{cleared-length}
use Rattle.solver.proofs.LentPlanes.{flat-read, half-cleared}
use Rattle.requests.specs.Reply.{Reply, is_answered}
use Rattle.requests.specs.declared.Request.{Request}
use Rattle.requests.specs.Lent.{agent_count}
use Rattle.planes.specs.Planes.{planes_of_call, planes_made, planes_written}
use Rattle.planes.proofs.writing.EachMade.{planes-many, made-finite, made-not-finite}
use Rattle.planes.proofs.writing.WrittenPlanes.{planes-length, all-written}
use Rattle.avoidance.specs.Velocity.{reply_of, planes_verdict, planned_reply, planned_scratch}
use Rattle.avoidance.proofs.velocity.replied.Goals as goal
use Rattle.std.proofs.Common.{rules}
use Rattle.std.specs.Prelude.{Option, Ok, Err}

-- an answer leaves the planes in the first half, and +0 in the second
left : (reply : Reply) (n : ℕ) (planes : List Plane) (xs ys : List Float) → ys ≡ numbers_of_planes planes ++ replicate (6 * n) zero ++ drop (12 * n) xs
    → is_answered reply ≡ true → ys ≡ planned_scratch reply n planes xs
unfolding planned_scratch
left (Ok course) n planes xs ys stands answered = stands
left (Err refusal) n planes xs ys stands answered = absurd (false≢true answered)

-- what the solve reads and leaves, where the planes stand in its first half
module _ (n : ℕ) (planes : List Plane) (xs ys : List Float) (is : length xs ≡ 12 * n) (many : length planes ≡ n) (same : length ys ≡ length xs) (stands : ys ≡ numbers_of_planes planes ++ drop (6 * n) xs) where
  count-is : length ys / 12 ≡ n
  count-is = omega arith

  planes-are : planes_of (length ys / 12) ys ≡ planes
  planes-are = ap (λ (k : ℕ). planes_of k ys) (count-is ∙ sym many) ∙ ap (planes_of (length planes)) stands ∙ flat-read planes (drop (6 * n) xs)

  half_is : half_cleared ys ≡ numbers_of_planes planes ++ replicate (6 * n) zero ++ drop (12 * n) xs
  half_is =
      half-cleared n planes (drop (6 * n) xs) ys count-is many stands
      ∙ ap (λ (zs : List Float). numbers_of_planes planes ++ replicate (6 * n) zero ++ zs) (drop_of_length-le ys (le_of_eq (same ∙ is)) ∙ sym (drop_of_length-le xs (le_of_eq is)))

-- what making the planes came to, and what it left in scratch
module _ (request : Request) (neighbours xs ys : List Float) (is : length xs ≡ 12 * agent_count neighbours) (left : ys ≡ planes_written (planes_of_call request neighbours) xs) where
  same : length ys ≡ length xs
  same = ap length left ∙ planes-length (planes_of_call request neighbours) xs

  -- every plane is finite
  module _ (unseen : Option ℕ) (made : Ok unseen ≡ planes_made request neighbours) where
    stands : ys ≡ numbers_of_planes (planes_of_call request neighbours) ++ drop (6 * agent_count neighbours) xs
    stands =
        let many = planes-many request neighbours in
        left ∙ all-written (planes_of_call request neighbours) xs (made-finite request neighbours unseen made).0 (omega (arith, many, is)) ∙ ap (λ (n : ℕ). numbers_of_planes (planes_of_call request neighbours) ++ drop (6 * n) xs) many

    solved : planned_reply request neighbours ≡ reply_of (solve (planes_of_call request neighbours) request.max_speed request.preferred) unseen
    unfolding planned_reply planes_verdict
    solved = let (none, first) = made-finite request neighbours unseen made in rw (none, first)

    read_back : planes_of (length ys / 12) ys ≡ planes_of_call request neighbours
    read_back = planes-are (agent_count neighbours) (planes_of_call request neighbours) xs ys is (planes-many request neighbours) same stands

    cleared : half_cleared ys ≡ numbers_of_planes (planes_of_call request neighbours) ++ replicate (6 * agent_count neighbours) zero ++ drop (12 * agent_count neighbours) xs
    cleared = half_is (agent_count neighbours) (planes_of_call request neighbours) xs ys is (planes-many request neighbours) same stands

-- one is not
refused : (request : Request) (neighbours : List Float) (refusal : Refusal) → planes_made request neighbours ≡ Err refusal → Err refusal ≡ planned_reply request neighbours
unfolding planned_reply planes_verdict
refused request neighbours refusal made = let refuses = made-not-finite request neighbours refusal (sym made) in rw refuses

pub returns-in_err-unseen-clause-answer : goal.returns-in_err-unseen-clause-answer
returns-in_err-unseen-clause-answer c = search (rules, refused)

pub returns : goal.returns
unfolding planned_scratch
returns c =
    let made = sym c.in_ok-unseen.was ∙ c.write_planes.ensures.made in
    record {
      answer =
          c.reply_of.ensures
          ∙ ap (λ (solution : Solution). reply_of solution c.in_ok-unseen.unseen) (c.solve-solution.ensures.value ∙ ap (λ (ps : List Plane). solve ps c.args.request.max_speed c.args.request.preferred) (read_back _ _ _ _ c.requires c.write_planes.ensures.scratch c.in_ok-unseen.unseen made))
          ∙ sym (solved _ _ _ _ c.requires c.write_planes.ensures.scratch c.in_ok-unseen.unseen made);
      scratch = record {
        same_length = ap length c.solve-solution.ensures.scratch ∙ cleared-length _ ∙ same _ _ _ _ c.requires c.write_planes.ensures.scratch;
        left = left c.reply_of.result _ _ _ _ (c.solve-solution.ensures.scratch ∙ cleared _ _ _ _ c.requires c.write_planes.ensures.scratch c.in_ok-unseen.unseen made);
      };
    }
