-- The velocity call is asked what the definition asks, on the neighbours that the walk found, and names them by their table indices.
use mathlib.Core.Path.{◌≡◌, ap, ◌∙◌}
use mathlib.Core.List.{List}
use Prim.Native.Nat.{ℕ}
use lib.Ieee.{Float}
use lib.ListN.{length, take}
use Rattle.requests.specs.declared.Request.{Request}
use Rattle.requests.specs.Reply.{renamed, Reply}
use Rattle.avoidance.specs.Velocity.{velocity_call, scratch_after}
use Rattle.records.specs.declared.Record.{Record}
use Rattle.planner.specs.declared.Rule.{Rule}
use Rattle.planner.specs.Plan.{kept_from, neighbour_numbers, request_for, own_record, neighbour_indices, neighbours_of, reply_for, reply_scratch}
use Rattle.std.proofs.lemmas.List.{take_min}
use Rattle.planner.proofs.plan.reply_for.Goals as goal

-- what is asked of the velocity call is what the definition asks
module _ (time_step : Float) (rule : Rule) (rs : List Record) (index : ℕ) (own : Record) (request : Request) (js : List ℕ) (numbers : List Float)
    (own_is : own ≡ own_record rs index) (request-is : request ≡ request_for own time_step) (js-are : js ≡ kept_from rule own index 0 rs) (numbers-are : numbers ≡ neighbour_numbers rs (kept_from rule own index 0 rs)) where
  replied : (answer : Reply) (room : ℕ) → answer ≡ velocity_call request numbers room → renamed js answer ≡ reply_for time_step rule rs index room
  unfolding reply_for neighbour_indices neighbours_of
  replied answer room is = rw (is, request-is, js-are, numbers-are, own_is)

  left : (scratch : List Float) → scratch_after request numbers scratch ≡ reply_scratch time_step rule rs index scratch
  unfolding reply_scratch neighbour_indices neighbours_of
  left scratch = rw (request-is, numbers-are, own_is)

pub returns : goal.returns
returns c =
    let time_step = c.args.time_step in
    let rule = c.args.rule in
    let index = c.args.index in
    let records = c.args.records.now in
    let kept = c.neighbours_of-kept.ensures in
    let agents = take c.min.result records in
    let same : agents ≡ take 64 records = ap (λ (n : ℕ). take n records) c.min.ensures ∙ take_min 64 records in record {
      answer = c.renamed.ensures
          ∙ replied time_step rule agents index _ _ _ _ c.own_record-own.ensures c.request_for.ensures (c.deref-2.ensures.0 ∙ kept.indexed) (c.deref.ensures.0 ∙ kept.numbered) _ _ c.velocity-reply.ensures.answer
          ∙ ap (λ (rs : List Record). reply_for time_step rule rs index (length c.args.scratch.now)) same;
      scratch = c.velocity-reply.ensures.scratch
          ∙ left time_step rule agents index _ _ _ _ c.own_record-own.ensures c.request_for.ensures (c.deref-2.ensures.0 ∙ kept.indexed) (c.deref.ensures.0 ∙ kept.numbered) _
          ∙ ap (λ (rs : List Record). reply_scratch time_step rule rs index c.args.scratch.now) same;
    }
