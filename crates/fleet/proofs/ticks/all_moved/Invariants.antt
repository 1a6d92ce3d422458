use mathlib.Core.Path.{◌≡◌}
use mathlib.Core.List.{◌++◌}
use lib.ListN.{length, take, drop}
use Rattle.fleet.specs.Tick.{each, moved_by}
use Rattle.fleet.proofs.ticks.all_moved.Given as goal

abbrev pub invariant-loop-index : goal.invariant-loop-index
invariant-loop-index l = record {
  kept : length l.records.items ≡ l.index-end;
  so_far : take l.index l.records.items ++ each (moved_by l.time_step) (drop l.index l.records.items) (drop l.index l.plans) ≡ each (moved_by l.time_step) l.fn.records.items l.plans;
}
