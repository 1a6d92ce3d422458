use Rattle.std.proofs.Common.{◌≡◌, ◌+◌, ◌-◌, ◌*◌, ◌/◌, ◌^◌, ◌≤◌}
use Rattle.vectors.specs.Root.{floor_root}
use Rattle.spacing.proofs.whole_root.whole_root.Given as goal

abbrev pub invariant-loop-left : goal.invariant-loop-left
invariant-loop-left l = (l.root + 1 ≤ 2 ^ (32 - l.left)) × (l.root ≡ floor_root (32 - l.left) (l.square / 2 ^ (2 * l.left)))
