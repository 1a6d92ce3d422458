-- A frame's positions by index, and its pairs by the arrays that the code has: what a row of them is, and the turn of the loop over the rows.
use mathlib.Core.Path.{◌≡◌, refl, sym, ap, ap₂, ◌∙◌}
use mathlib.Core.List.{List, [], ◌∷◌, map}
use Prim.Native.Nat.{ℕ, zero, suc, ◌+◌, ◌-◌, ◌*◌, ◌≤◌, ◌<◌}
use native.Mathlib.Numerals.{add-one}
use native.Mathlib.Omega.{arith}
use lib.IntN.{pos, nat_abs}
use lib.ListN.{length, get_or, drop, drop_of_length-le}
use lib.Seq.{drop-cons}
use lib.Ieee.{Float, nan}
use Rattle.spacing.specs.declared.pairs.Running.{Running}
use Rattle.spacing.specs.declared.spots.Spots.{Spots}
use Rattle.spacing.specs.Millimetres.{apart, millimetres}
use Rattle.spacing.specs.parts.Millimetres.{reach}
use Rattle.spacing.specs.Frame.{Position, positions, square, squared}
use Rattle.spacing.specs.parts.Frame.{FitFrame, Along}
use Rattle.spacing.specs.parts.Spots.{SpotsOf, between, squared_at, listed, squares_from}
use Rattle.spacing.specs.parts.Pairs.{with_row, with_pairs}
use Rattle.spacing.proofs.Patterns.{within-size}
use Rattle.spacing.proofs.WholeNumbers.{apart-corner}
use Rattle.spacing.proofs.WithinReach.{reached}

abbrev origin : Position
origin = record { x = pos 0; y = pos 0; z = pos 0 }

-- the agent at an index
abbrev position_at : List Float → ℕ → Position
position_at frame k = record {
  x = millimetres (get_or frame (3 * k + 0) nan);
  y = millimetres (get_or frame (3 * k + 1) nan);
  z = millimetres (get_or frame (3 * k + 2) nan);
}

length-positions : (frame : List Float) (agents : ℕ) → length frame ≡ 3 * agents → length (positions frame) ≡ agents
unfolding positions
length-positions [] zero e = refl
length-positions [] (suc n) e = absurd (omega arith)
length-positions (x ∷ []) n e = absurd (omega arith)
length-positions (x ∷ y ∷ []) n e = absurd (omega arith)
length-positions (x ∷ y ∷ z ∷ rest) zero e = absurd (omega arith)
length-positions (x ∷ y ∷ z ∷ rest) (suc n) e = ap suc (length-positions rest n (omega arith))

at-index : (frame : List Float) (agents : ℕ) → length frame ≡ 3 * agents → (k : ℕ) → k < agents → get_or (positions frame) k origin ≡ position_at frame k
unfolding positions
at-index [] zero e k h = absurd (omega arith)
at-index [] (suc n) e k h = absurd (omega arith)
at-index (x ∷ []) n e k h = absurd (omega arith)
at-index (x ∷ y ∷ []) n e k h = absurd (omega arith)
at-index (x ∷ y ∷ z ∷ rest) zero e k h = absurd (omega arith)
at-index (x ∷ y ∷ z ∷ rest) (suc n) e zero h = refl
at-index (x ∷ y ∷ z ∷ rest) (suc n) e (suc k) h = at-index rest n (omega arith) k (omega arith) ∙ later
  where
    next : (a : ℕ) → millimetres (get_or rest (3 * k + a) nan) ≡ millimetres (get_or (x ∷ y ∷ z ∷ rest) (3 * suc k + a) nan)
    next a = ap (λ (i : ℕ). millimetres (get_or (x ∷ y ∷ z ∷ rest) i nan)) (three k a)
      where
        three : (k a : ℕ) → suc (suc (suc (3 * k + a))) ≡ 3 * suc k + a
        three k a = omega arith

    later : position_at rest k ≡ position_at (x ∷ y ∷ z ∷ rest) (suc k)
    later i = record { x = next 0 i; y = next 1 i; z = next 2 i }

-- ---- the arrays

module _ (agents : ℕ) (frame : List Float) (fit : FitFrame agents frame) where
  -- a component is within reach
  small : (axis : ℕ) → axis < 3 → (k : ℕ) → k < agents → nat_abs (millimetres (get_or frame (3 * k + axis) nan)) ≤ reach
  small axis a k h = within-size (get_or frame (3 * k + axis) nan) (reached 0 frame fit.within (3 * k + axis) (omega (arith, fit.long)))

  same_gap : (axis : ℕ) → axis < 3 → (places : List ℕ) → Along agents axis frame places → (i j : ℕ) → i < agents → j < agents
      → between (get_or places i 0) (get_or places j 0) ≡ apart (millimetres (get_or frame (3 * i + axis) nan)) (millimetres (get_or frame (3 * j + axis) nan))
  same_gap axis a places along i j hi hj =
      ap₂ between (along i hi) (along j hj) ∙ apart-corner _ _ (small axis a i hi) (small axis a j hj)

  pub rows_end : (limit first : ℕ) (r : Running) → agents ≤ first → with_pairs limit r first (drop first (positions frame)) ≡ r
  unfolding with_pairs
  rows_end limit first r h = ap (with_pairs limit r first) (drop_of_length-le (positions frame) {i = first} (omega (arith, length-positions frame agents fit.long)))

module _ (frame : List Float) (spots : Spots) (of : SpotsOf frame spots) where
  abbrev agents : ℕ
  agents = spots.agents

  same-square : (i j : ℕ) → i < agents → j < agents → squared_at spots i j ≡ squared (position_at frame i) (position_at frame j)
  unfolding squared
  same-square i j hi hj =
      ap₂ ◌+◌
      (ap₂ ◌+◌ (ap square (same_gap agents frame of.fit 0 (omega arith) spots.xs of.along-x i j hi hj)) (ap square (same_gap agents frame of.fit 1 (omega arith) spots.ys of.along-y i j hi hj)))
      (ap square (same_gap agents frame of.fit 2 (omega arith) spots.zs of.along-z i j hi hj))

  listed-from : (i : ℕ) → i < agents → (n j : ℕ) → j + n ≡ agents → listed n j (squared_at spots i) ≡ map (squared (position_at frame i)) (drop j (positions frame))
  unfolding listed
  listed-from i hi zero j e = ap (map (squared (position_at frame i))) (sym (drop_of_length-le (positions frame) {i = j} (omega (arith, length-positions frame agents of.fit.long))))
  listed-from i hi (suc n) j e =
      let there : j < length (positions frame) = omega (arith, length-positions frame agents of.fit.long) in
      ap₂ ◌∷◌ (same-square i j hi (omega arith)) (listed-from i hi n (suc j) (omega arith))
      ∙ sym (ap (map (squared (position_at frame i))) (drop-cons (positions frame) j origin there ∙ ap (λ (p : Position). p ∷ drop (suc j) (positions frame)) (at-index frame agents of.fit.long j (omega arith))))

  row : (first : ℕ) → first < agents → squares_from spots first (suc first) ≡ map (squared (position_at frame first)) (drop (suc first) (positions frame))
  unfolding squares_from
  row first h = listed-from first h (agents - suc first) (suc first) (omega arith)

  -- with one more row, what is left gives the same
  pub row_more : (limit first : ℕ) (r : Running) → first < agents
      → with_pairs limit (with_row limit r first (suc first) (squares_from spots first (suc first))) (first + 1) (drop (first + 1) (positions frame))
      ≡ with_pairs limit r first (drop first (positions frame))
  unfolding with_pairs
  row_more limit first r h =
      let there : first < length (positions frame) = omega (arith, length-positions frame agents of.fit.long) in
      rw (drop-cons (positions frame) first origin there, at-index frame agents of.fit.long first h, row first h, add-one first)

pub ruleset row_steps = (row_more, rows_end)
