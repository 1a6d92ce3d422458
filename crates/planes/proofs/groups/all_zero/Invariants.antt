use Rattle.std.proofs.Common.{◌≡◌, ◌≤◌, map, take}
use Rattle.vectors.specs.Root.{root}
use Rattle.planes.proofs.groups.all_zero.Given as goal

abbrev pub invariant-loop-lane : goal.invariant-loop-lane
invariant-loop-lane l = record { few : l.others ≤ l.lane; zeros : l.others ≡ 0 → map root (take l.lane l.numbers) ≡ take l.lane l.numbers }
