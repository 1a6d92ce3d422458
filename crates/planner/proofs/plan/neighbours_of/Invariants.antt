use mathlib.Core.Path.{◌≡◌}
use mathlib.Core.List.{◌++◌}
use Prim.Native.Nat.{◌*◌, ◌≤◌}
use lib.ListN.{drop}
use Rattle.arrayvec.specs.ArrayVec.{array_vec_len}
use Rattle.requests.specs.Lent.{per_agent}
use Rattle.planner.specs.Plan.{kept_from, neighbour_numbers}
use Rattle.planner.proofs.plan.neighbours_of.Given as goal

abbrev pub invariant-loop-at : goal.invariant-loop-at
invariant-loop-at l = record {
  few : array_vec_len l.kept.indices ≤ l.at;
  wide : array_vec_len l.kept.numbers ≡ per_agent * array_vec_len l.kept.indices;
  indexed : l.kept.indices.items ++ kept_from l.rule l.own l.index l.at (drop l.at l.records) ≡ kept_from l.rule l.own l.index 0 l.records;
  numbered : l.kept.numbers.items ≡ neighbour_numbers l.records l.kept.indices.items;
}
