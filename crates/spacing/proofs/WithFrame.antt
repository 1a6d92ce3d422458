-- The report with one more frame, by what the pairs one after another leave.
use mathlib.Core.Path.{◌≡◌, sym, ap, ◌∙◌}
use mathlib.Core.List.{List}
use Prim.Native.Nat.{ℕ, ◌+◌, ◌*◌}
use native.Mathlib.Nat.{zero-add}
use native.Mathlib.Numerals.{add-one}
use lib.Ieee.{Float}
use Rattle.spacing.specs.declared.Report.{Report}
use Rattle.spacing.specs.Answers.{done}
use Rattle.spacing.specs.Frame.{positions}
use Rattle.spacing.specs.Tally.{within_reach, fullest, report_with}
use Rattle.spacing.specs.parts.Pairs.{with_pairs, start_at}
use Rattle.spacing.specs.parts.Tally.{bound_of, smallest_after}
use Rattle.spacing.proofs.Tracked.{all-within, pairs_below, smallest-tracked}

pub with_frame : (limit : ℕ) (report : Report) (frame : List Float) → within_reach 0 frame ≡ done
    → report_with limit report frame
    ≡ (let r = with_pairs (limit * limit) (start_at (bound_of report.smallest)) 0 (positions frame) in
    record { frames = report.frames + 1; smallest = smallest_after report.smallest report.frames r; below = fullest (report.below + r.below) })
unfolding report_with
with_frame limit report frame within i = record {
  frames = sym (add-one report.frames) i;
  smallest = sym (smallest-tracked report.smallest report.frames (limit * limit) (positions frame) (all-within 0 frame within)) i;
  below = sym (ap (λ (n : ℕ). fullest (report.below + n)) (pairs_below report.frames limit (start_at (bound_of report.smallest)) 0 (positions frame) ∙ zero-add _)) i;
}

pub ruleset one_frame = (with_frame)
