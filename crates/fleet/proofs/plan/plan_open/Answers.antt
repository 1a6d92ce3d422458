-- An agent's reply is that on all the standing records, of which there are at most 64.
use mathlib.Core.Path.{◌≡◌, sym, ap, ◌∙◌}
use mathlib.Core.List.{List}
use lib.ListN.{length, take}
use lib.Seq.{take_all}
use Rattle.refusals.specs.Verdict.{passed}
use Rattle.records.specs.declared.Record.{Record}
use Rattle.planner.specs.Plan.{reply_for, reply_scratch}
use Rattle.fleet.specs.Table.{agents, has_agent}
use Rattle.fleet.specs.Plan.{answered_by, plan_open, scratch_of, scratch_open}
use Rattle.fleet.proofs.plan.plan_open.Goals as goal

pub returns : goal.returns
unfolding plan_open scratch_open scratch_of
returns c =
    let fleet = c.args.fleet in
    let tick = c.args.tick in
    let index = c.args.index in
    let there : has_agent fleet index ≡ passed = sym c.has_agent.ensures.verdict ∙ c.in_default.is in
    let all : take 64 c.as_slice.result.now ≡ agents fleet = take_all 64 c.as_slice.result.now c.as_slice.ensures.within ∙ c.as_slice.ensures.items in
    record {
      answer = rw there (c.answered.ensures ∙ ap (answered_by passed fleet index) (c.reply_for-reply.ensures.answer ∙ ap (λ (rs : List Record). reply_for tick.time_step tick.rule rs index (length c.args.scratch.now)) all));
      scratch = rw there (c.reply_for-reply.ensures.scratch ∙ ap (λ (rs : List Record). reply_scratch tick.time_step tick.rule rs index c.args.scratch.now) all);
    }
