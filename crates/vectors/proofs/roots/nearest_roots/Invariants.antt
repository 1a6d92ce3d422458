use mathlib.Core.Path.{◌≡◌}
use mathlib.Core.List.{List}
use Prim.Native.Nat.{ℕ, ◌*◌, ◌/◌, ◌^◌, ◌≤◌, ◌<◌}
use lib.ListN.{get_or}
use Rattle.vectors.specs.parts.Root.{rest_after, twice_after, rounded_of}
use Rattle.vectors.specs.parts.Roots.{Lanes, EachLane}
use Rattle.vectors.proofs.root.Digits.{Digits}
use Rattle.vectors.proofs.roots.nearest_roots.Given as goal

-- j digits are to come in every lane, and `digit` is the place of the next one, or 0
abbrev pub ToCome : (m rest twice : List ℕ) (digit : ℕ) → Type 0
ToCome m rest twice digit = (j : ℕ) × (j ≤ 24) × (digit ≡ 2 ^ j / 2) × Lanes rest × Lanes twice × EachLane (λ i. Digits (get_or m i 0 * 2 ^ 23) j (get_or rest i 0) (get_or twice i 0))

abbrev pub invariant-loop-lane : goal.invariant-loop-lane
invariant-loop-lane l =
    Lanes l.rest × Lanes l.twice
    × ((i : ℕ) → i < l.lane → (get_or l.rest i 0 ≡ rest_after (get_or l.initial.rest i 0) (get_or l.initial.twice i 0) l.digit) × (get_or l.twice i 0 ≡ twice_after (get_or l.initial.rest i 0) (get_or l.initial.twice i 0) l.digit))
    × ((i : ℕ) → l.lane ≤ i → (get_or l.rest i 0 ≡ get_or l.initial.rest i 0) × (get_or l.twice i 0 ≡ get_or l.initial.twice i 0))

abbrev pub invariant-loop-digit : goal.invariant-loop-digit
invariant-loop-digit l = ToCome l.fn.m l.rest l.twice l.digit

abbrev pub decreases-loop-digit : goal.decreases-loop-digit
decreases-loop-digit l = l.digit

abbrev pub invariant-loop-lane-2 : goal.invariant-loop-lane-2
invariant-loop-lane-2 l = Lanes l.twice × ((i : ℕ) → i < l.lane → get_or l.twice i 0 ≡ rounded_of (get_or l.rest i 0) (get_or l.initial.twice i 0)) × ((i : ℕ) → l.lane ≤ i → get_or l.twice i 0 ≡ get_or l.initial.twice i 0)
