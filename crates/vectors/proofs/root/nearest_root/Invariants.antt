use mathlib.Core.Path.{◌≡◌}
use Prim.Native.Nat.{ℕ, ◌*◌, ◌/◌, ◌^◌, ◌≤◌}
use Rattle.vectors.proofs.root.Digits.{Digits}
use Rattle.vectors.proofs.root.nearest_root.Given as goal

-- j digits are to come, and `digit` is the place of the next one, or 0
abbrev pub ToCome : (m rest twice digit : ℕ) → Type 0
ToCome m rest twice digit = (j : ℕ) × (j ≤ 24) × (digit ≡ 2 ^ j / 2) × Digits (m * 2 ^ 23) j rest twice

abbrev pub invariant-loop-digit : goal.invariant-loop-digit
invariant-loop-digit l = ToCome l.m l.rest l.twice l.digit

abbrev pub decreases-loop-digit : goal.decreases-loop-digit
decreases-loop-digit l = l.digit
