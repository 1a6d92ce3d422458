-- What the pairs one after another leave is the frame's smallest sighting, where that is smaller than the one before, and how many lay below the limit.
use mathlib.Core.Path.{◌≡◌, refl, sym, ap, ◌∙◌, subst}
use mathlib.Core.Bool.{Bool, true, false, cond}
use mathlib.Core.List.{List, [], ◌∷◌, map}
use Prim.Native.Nat.{ℕ, suc, ◌+◌, ◌*◌, ◌^◌, ◌≤◌, ◌<◌}
use native.Mathlib.Nat.{add-zero, add_assoc}
use native.Mathlib.Omega.{arith}
use lib.Dec.{ltb}
use lib.IntN.{ℤ, nat_abs}
use lib.Ieee.{Float}
use Rattle.std.specs.Prelude.{Option, Some, None}
use borrow.Author.Tests.{lt-ltb, le-ltb, ltb-true, ltb-false}
use Rattle.spacing.specs.declared.Refusal.TheVariants.{OutOfReach}
use Rattle.spacing.specs.declared.Sighting.{Sighting}
use Rattle.spacing.specs.declared.pairs.Running.{Running}
use Rattle.spacing.specs.Millimetres.{apart}
use Rattle.spacing.specs.parts.Millimetres.{reach}
use Rattle.spacing.specs.Frame.{Position, positions, square, squared, sighted, pairs, out_of_reach}
use Rattle.spacing.specs.Report.{lesser, smallest_of, below_of}
use Rattle.spacing.specs.Answers.{done}
use Rattle.spacing.specs.Tally.{within_reach}
use Rattle.spacing.specs.parts.Pairs.{with_pair, with_row, with_pairs, start_at}
use Rattle.spacing.specs.parts.Tally.{bound_of, smallest_after}
use Rattle.spacing.proofs.Patterns.{within-size}
use Rattle.spacing.proofs.SmallestOf.{lesser-nowhere, lesser-assoc, smallest-append, below-append}
use Rattle.spacing.proofs.Squares.{product_small}
use Rattle.spacing.proofs.WholeNumbers.{apart-corner, corner-near}
use Rattle.spacing.proofs.WithinReach.{let_through}

-- ---- squares are small

abbrev pub Within : Position → Type 0
Within p = (nat_abs p.x ≤ reach) × (nat_abs p.y ≤ reach) × (nat_abs p.z ≤ reach)

abbrev pub AllWithin : List Position → Type 0
AllWithin [] = Unit {0}
AllWithin (p ∷ ps) = Within p × AllWithin ps

pub all-within : (place : ℕ) (frame : List Float) → within_reach place frame ≡ done → AllWithin (positions frame)
unfolding within_reach positions
all-within place [] h = tt
all-within place (x ∷ []) h = tt
all-within place (x ∷ y ∷ []) h = tt
all-within place (x ∷ y ∷ z ∷ rest) h =
    let at_x = let_through (out_of_reach x) (OutOfReach place) (within_reach (suc place) (y ∷ z ∷ rest)) h in
    let at_y = let_through (out_of_reach y) (OutOfReach (suc place)) (within_reach (suc (suc place)) (z ∷ rest)) at_x.1 in
    let at-z = let_through (out_of_reach z) (OutOfReach (suc (suc place))) (within_reach (suc (suc (suc place))) rest) at_y.1 in
    ((within-size x at_x.0, within-size y at_y.0, within-size z at-z.0), all-within (suc (suc (suc place))) rest at-z.1)

gap-small : (a b : ℤ) → nat_abs a ≤ reach → nat_abs b ≤ reach → square (apart a b) < 2 ^ 50
gap-small a b ha hb =
    let most : apart a b ≤ 2 * reach = omega (arith, apart-corner a b ha hb, corner-near a ha, corner-near b hb) in
    product_small (apart a b) (apart a b) most most

squared-small : (p q : Position) → Within p → Within q → squared p q < 2 ^ 52
unfolding squared
squared-small p q hp hq =
    omega (arith, gap-small p.x q.x hp.0 hq.0, gap-small p.y q.y hp.1 hq.1, gap-small p.z q.z hp.2 hq.2)

abbrev AllSmall : List ℕ → Type 0
AllSmall [] = Unit {0}
AllSmall (d ∷ ds) = (d < 2 ^ 52) × AllSmall ds

all_small : (p : Position) (ps : List Position) → Within p → AllWithin ps → AllSmall (map (squared p) ps)
all_small p [] hp h = tt
all_small p (q ∷ qs) hp h = (squared-small p q hp h.0, all_small p qs hp h.1)

-- ---- the smallest

-- r has gone through pairs of the frame whose smallest, with s before them, is m
record Tracks (s : Option Sighting) (frame : ℕ) (r : Running) (m : Option Sighting) : Type 0 where
  found : smallest_after s frame r ≡ m
  bound : r.squared ≡ bound_of m
  under : r.squared ≤ bound_of s

module _ (s : Option Sighting) (frame limit : ℕ) where
  one-pair : (r : Running) (m : Option Sighting) (d first second : ℕ) → d < 2 ^ 52 → Tracks s frame r m
      → Tracks s frame (with_pair limit r d first second) (lesser m (Some (record { squared = d; frame = frame; first = first; second = second })))
  unfolding with_pair smallest_after bound_of lesser
  one-pair r m d first second small h = go (ltb d r.squared) refl
    where
      seen : Sighting
      seen = record { squared = d; frame = frame; first = first; second = second }

      below : ℕ
      below = cond (ltb d limit) (r.below + 1) r.below

      taken : (m : Option Sighting) → d < bound_of m → lesser m (Some seen) ≡ Some seen
      taken None l = refl
      taken (Some t) l = rw (lt-ltb d t.squared l)

      kept : (m : Option Sighting) → bound_of m ≤ d → lesser m (Some seen) ≡ m
      kept None l = absurd (omega arith)
      kept (Some t) l = rw (le-ltb d t.squared l)

      go : (b : Bool) → ltb d r.squared ≡ b → Tracks s frame (with_pair limit r d first second) (lesser m (Some seen))
      go true e =
          let nearer : d < r.squared = ltb-true d r.squared e in
          let least : lesser m (Some seen) ≡ Some seen = taken m (omega (arith, h.bound)) in
          let is : with_pair limit r d first second ≡ record { squared = d; first = first; second = second; below = below } = rw e in
          subst (λ (q : Running). Tracks s frame q (lesser m (Some seen))) (sym is)
          (record { found = rw (lt-ltb d (bound_of s) (omega (arith, h.under))) (sym least); bound = ap bound_of (sym least); under = omega (arith, h.under) })
      go false e =
          let not-nearer : r.squared ≤ d = ltb-false d r.squared e in
          let same : lesser m (Some seen) ≡ m = kept m (omega (arith, h.bound)) in
          let is : with_pair limit r d first second ≡ record { squared = r.squared; first = r.first; second = r.second; below = below } = rw e in
          subst (λ (q : Running). Tracks s frame q (lesser m (Some seen))) (sym is)
          (record { found = h.found ∙ sym same; bound = h.bound ∙ ap bound_of (sym same); under = h.under })

  one-row : (r : Running) (m : Option Sighting) (first second : ℕ) (ds : List ℕ) → AllSmall ds → Tracks s frame r m
      → Tracks s frame (with_row limit r first second ds) (lesser m (smallest_of (sighted frame first second ds)))
  unfolding with_row sighted smallest_of
  one-row r m first second [] small h = subst (λ (n : Option Sighting). Tracks s frame r n) (sym (lesser-nowhere m)) h
  one-row r m first second (d ∷ ds) small h =
      subst (Tracks s frame (with_row limit (with_pair limit r d first second) first (suc second) ds)) (lesser-assoc m _ _)
      (one-row (with_pair limit r d first second) _ first (suc second) ds small.1 (one-pair r m d first second small.0 h))

  all-rows : (r : Running) (m : Option Sighting) (first : ℕ) (ps : List Position) → AllWithin ps → Tracks s frame r m
      → Tracks s frame (with_pairs limit r first ps) (lesser m (smallest_of (pairs frame first ps)))
  unfolding with_pairs pairs smallest_of
  all-rows r m first [] within h = subst (λ (n : Option Sighting). Tracks s frame r n) (sym (lesser-nowhere m)) h
  all-rows r m first (p ∷ ps) within h =
      let ds = map (squared p) ps in
      let row = sighted frame first (suc first) ds in
      let rest = pairs frame (suc first) ps in
      subst (Tracks s frame (with_pairs limit (with_row limit r first (suc first) ds) (suc first) ps)) (lesser-assoc m (smallest_of row) (smallest_of rest) ∙ ap (lesser m) (sym (smallest-append row rest)))
      (all-rows (with_row limit r first (suc first) ds) (lesser m (smallest_of row)) (suc first) ps within.1 (one-row r m first (suc first) ds (all_small p ps within.0 within.1) h))

-- ---- how many below

one_below : (limit : ℕ) (r : Running) (d first second : ℕ) → (with_pair (limit * limit) r d first second).below ≡ cond (ltb d (limit * limit)) (r.below + 1) r.below
unfolding with_pair
one_below limit r d first second = go (ltb d r.squared) (cond (ltb d (limit * limit)) (r.below + 1) r.below)
  where
    go : (b : Bool) (below : ℕ) → (cond {A = Running} b (record { squared = d; first = first; second = second; below = below }) (record { squared = r.squared; first = r.first; second = r.second; below = below })).below ≡ below
    go true below = refl
    go false below = refl

row_below : (frame limit : ℕ) (r : Running) (first second : ℕ) (ds : List ℕ) → (with_row (limit * limit) r first second ds).below ≡ r.below + below_of limit (sighted frame first second ds)
unfolding with_row sighted below_of
row_below frame limit r first second [] = sym (add-zero r.below)
row_below frame limit r first second (d ∷ ds) =
    row_below frame limit (with_pair (limit * limit) r d first second) first (suc second) ds
    ∙ ap (λ (n : ℕ). n + rest) (one_below limit r d first second)
    ∙ go (ltb d (limit * limit))
  where
    rest : ℕ
    rest = below_of limit (sighted frame first (suc second) ds)

    go : (b : Bool) → cond b (r.below + 1) r.below + rest ≡ r.below + cond b (suc rest) rest
    go true = omega arith
    go false = refl

pub pairs_below : (frame limit : ℕ) (r : Running) (first : ℕ) (ps : List Position) → (with_pairs (limit * limit) r first ps).below ≡ r.below + below_of limit (pairs frame first ps)
unfolding with_pairs pairs below_of
pairs_below frame limit r first [] = sym (add-zero r.below)
pairs_below frame limit r first (p ∷ ps) =
    let ds = map (squared p) ps in
    pairs_below frame limit (with_row (limit * limit) r first (suc first) ds) (suc first) ps
    ∙ ap (λ (n : ℕ). n + below_of limit (pairs frame (suc first) ps)) (row_below frame limit r first (suc first) ds)
    ∙ add_assoc r.below (below_of limit (sighted frame first (suc first) ds)) (below_of limit (pairs frame (suc first) ps))
    ∙ ap (λ (n : ℕ). r.below + n) (sym (below-append limit (sighted frame first (suc first) ds) (pairs frame (suc first) ps)))

pub smallest-tracked : (s : Option Sighting) (frame limit : ℕ) (ps : List Position) → AllWithin ps → smallest_after s frame (with_pairs limit (start_at (bound_of s)) 0 ps) ≡ lesser s (smallest_of (pairs frame 0 ps))
unfolding smallest_after
smallest-tracked s frame limit ps within = (all-rows s frame limit (start_at (bound_of s)) s 0 ps within (record { found = rw (le-ltb (bound_of s) (bound_of s) (omega arith)); bound = refl; under = omega arith })).found
