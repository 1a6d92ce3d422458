use mathlib.Core.Path.{◌≡◌}
use mathlib.Core.List.{◌++◌}
use lib.ListN.{length, take, drop}
use Rattle.fleet.specs.Tick.{each, goal_taken}
use Rattle.fleet.proofs.ticks.goals_taken.Given as goal

abbrev pub invariant-loop-index : goal.invariant-loop-index
invariant-loop-index l = record {
  kept : length l.records.items ≡ l.index-end;
  so_far : take l.index l.records.items ++ each goal_taken (drop l.index l.records.items) (drop l.index l.goals) ≡ each goal_taken l.fn.records.items l.goals;
}
