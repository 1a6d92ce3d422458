-- An answer names the lowest neighbour that is unseen: the second claim of document 02's [6].
use mathlib.Core.Path.{◌≡◌, sym, ap, ◌∙◌}
use mathlib.Core.Bool.{true}
use mathlib.Core.List.{List}
use Prim.Native.Nat.{ℕ}
use native.Mathlib.Nat.{zero-add}
use lib.ListN.{get_or}
use lib.Ieee.{Float}
use Rattle.refusals.specs.Conditions.{first_bad}
use Rattle.refusals.proofs.Conditions.{none-bad, all-good, lowest}
use Rattle.requests.specs.declared.Request.{Request}
use Rattle.requests.specs.Checks.{checks}
use Rattle.requests.specs.Reply.{is_answered, unseen_of}
use Rattle.requests.proofs.ReplyLaws.{answered-passed, refused_none}
use Rattle.requests.proofs.checks.Passed.{passed-fallback}
use Rattle.planes.specs.Planes.{planes_of_call}
use Rattle.planes.specs.Claims.{zero_normal}
use Rattle.planes.proofs.Unseen.{first-zero}
use Rattle.avoidance.specs.Velocity.{planned_reply, velocity_call}
use Rattle.avoidance.specs.Claims.{UnseenLowest}
use Rattle.avoidance.proofs.Velocities.{answer-unseen}

-- ---- what a reply names

module _ (request : Request) (neighbours : List Float) (k : ℕ) (answered : is_answered (velocity_call request neighbours k) ≡ true) where
  names-first : unseen_of (velocity_call request neighbours k) ≡ first_bad zero_normal 0 (planes_of_call request neighbours)
  unfolding velocity_call
  names-first =
      let passed = answered-passed (checks request neighbours k) (planned_reply request neighbours) answered in
      answer-unseen request neighbours k answered ∙ first-zero request (passed-fallback request neighbours k passed) neighbours

pub unseen-lowest : UnseenLowest
unseen-lowest request neighbours k =
    let planes = planes_of_call request neighbours in
    record {
      named = λ answered neighbour d.
          let (to, from) = lowest zero_normal 0 planes d neighbour in
          (λ e. to (sym (names-first request neighbours k answered) ∙ e), λ low. names-first request neighbours k answered ∙ from low);
      none = λ answered d. (
        λ e neighbour within. ap (λ (i : ℕ). zero_normal i (get_or planes neighbour d)) (zero-add neighbour) ∙ none-bad zero_normal 0 planes (sym (names-first request neighbours k answered) ∙ e) neighbour d within,
        λ all. names-first request neighbours k answered ∙ all-good zero_normal 0 planes d all,
      );
      refused = λ refused. refused_none (velocity_call request neighbours k) refused;
    }
