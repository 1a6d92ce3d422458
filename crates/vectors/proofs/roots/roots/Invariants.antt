use mathlib.Core.Path.{◌≡◌}
use Prim.Native.Nat.{ℕ, ◌<◌}
use lib.ListN.{get_or}
use lib.Ieee.{nan}
use Rattle.vectors.specs.Root.{root}
use Rattle.vectors.specs.parts.Roots.{Lanes, Begins}
use Rattle.vectors.proofs.roots.roots.Given as goal

abbrev pub invariant-loop-lane : goal.invariant-loop-lane
invariant-loop-lane l = Lanes l.rest × Lanes l.high × ((i : ℕ) → i < l.lane → Begins (get_or l.x i nan) (get_or l.rest i 0) (get_or l.high i 0))

abbrev pub invariant-loop-lane-2 : goal.invariant-loop-lane-2
invariant-loop-lane-2 l = Lanes l.y × ((i : ℕ) → i < l.lane → get_or l.y i nan ≡ root (get_or l.x i nan))
