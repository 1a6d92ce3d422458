use Rattle.std.proofs.Common.{◌≡◌, ◌*◌, ◌≤◌, drop}
use Rattle.spacing.specs.Frame.{positions}
use Rattle.spacing.specs.parts.Pairs.{with_pairs, start_at}
use Rattle.spacing.proofs.pairs.all_pairs.Given as goal

abbrev pub invariant-loop-first : goal.invariant-loop-first
invariant-loop-first l =
    (l.running.below ≤ 64 * l.first)
    × (with_pairs l.limit l.running l.first (drop l.first (positions l.frame.numbers.now)) ≡ with_pairs l.limit (start_at l.bound) 0 (positions l.frame.numbers.now))
