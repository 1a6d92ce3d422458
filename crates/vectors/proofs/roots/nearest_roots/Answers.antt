-- The outer loop's invariant: with j digits to come, every lane has what `Digits` says. The inner one's: the lanes passed have one digit more, and the others
-- what they had. The last loop's: the lanes passed are rounded.
use mathlib.Core.Path.{◌≡◌, refl, sym, ap, ap₂, ◌∙◌, subst, subst₂}
use Prim.Native.Nat.{ℕ, suc, ◌*◌, ◌/◌, ◌^◌, ◌≤◌, ◌<◌}
use native.Mathlib.Nat.{le_refl}
use native.Mathlib.Omega.{arith}
use mathlib.Core.List.{List}
use lib.ListN.{get_or, get_or-replicate, length-set}
use Rattle.vectors.specs.parts.Root.{rest_after, twice_after}
use Rattle.vectors.specs.parts.Roots.{EachLane}
use Rattle.vectors.proofs.root.Digits.{Digits, digits-none, digit-next, next_place, no_place, rounded-is}
use Rattle.vectors.proofs.roots.Lanes.{lane-passed, lane-left}
use Rattle.vectors.proofs.roots.nearest_roots.Invariants.{ToCome}
use Rattle.vectors.proofs.roots.nearest_roots.Goals as goal

-- in a turn of the outer loop there is a digit to come
abbrev Next : (m rest twice : List ℕ) (digit : ℕ) → Type 0
Next m rest twice digit = (k : ℕ) × (k < 24) × (digit ≡ 2 ^ k) × EachLane (λ i. Digits (get_or m i 0 * 2 ^ 23) (suc k) (get_or rest i 0) (get_or twice i 0))

next : (m rest twice : List ℕ) (digit : ℕ) → 0 < digit → ToCome m rest twice digit → Next m rest twice digit
next m rest twice digit some (j, few, is, rest-lanes, twice-lanes, d) =
    let place = next_place j digit is some in (
      place.0,
      subst (λ (n : ℕ). n ≤ 24) place.1 few,
      place.2,
      λ i inside. subst (λ (n : ℕ). Digits (get_or m i 0 * 2 ^ 23) n (get_or rest i 0) (get_or twice i 0)) place.1 (d i inside),
    )

-- after it there is none
none : (m rest twice : List ℕ) (digit : ℕ) → digit ≤ 0 → ToCome m rest twice digit → EachLane (λ i. Digits (get_or m i 0 * 2 ^ 23) 0 (get_or rest i 0) (get_or twice i 0))
none m rest twice digit left (j, few, is, rest-lanes, twice-lanes, d) i inside =
    subst (λ (n : ℕ). Digits (get_or m i 0 * 2 ^ 23) n (get_or rest i 0) (get_or twice i 0)) (no_place j digit is left) (d i inside)

pub loop-lane-preserved : goal.loop-lane-preserved
loop-lane-preserved c =
    let at = c.loop-lane in
    let outer = c.loop-digit in
    let lane = at.lane in
    let inside = c.loop-lane-test.true in
    let same = at.invariant.3 lane (le_refl lane) in
    let next = c.turned-next.result in (
      at.invariant.0 ∙ sym (length-set at.rest lane next.rest),
      at.invariant.1 ∙ sym (length-set at.twice lane next.twice),
      lane-passed 0 0 (λ (i r t : ℕ). (r ≡ rest_after (get_or outer.rest i 0) (get_or outer.twice i 0) outer.digit) × (t ≡ twice_after (get_or outer.rest i 0) (get_or outer.twice i 0) outer.digit))
          at.rest at.twice lane next.rest next.twice
          (subst (λ (n : ℕ). lane < n) at.invariant.0 inside)
          (subst (λ (n : ℕ). lane < n) at.invariant.1 inside)
          (c.turned-next.ensures.0 ∙ ap₂ (λ (r t : ℕ). rest_after r t outer.digit) same.0 same.1, c.turned-next.ensures.1 ∙ ap₂ (λ (r t : ℕ). twice_after r t outer.digit) same.0 same.1)
          at.invariant.2,
      lane-left 0 0 (λ (i r t : ℕ). (r ≡ get_or outer.rest i 0) × (t ≡ get_or outer.twice i 0)) at.rest at.twice lane next.rest next.twice at.invariant.3,
    )

pub loop-digit-init : goal.loop-digit-init
loop-digit-init c = (24, omega arith, refl, c.requires.0, refl, λ i inside. subst (Digits (get_or c.args.m i 0 * 2 ^ 23) 24 (get_or c.args.m i 0)) (sym (get_or-replicate 8 i 0 0 inside)) (digits-none _ _ (c.requires.1 i inside) refl))

pub loop-digit-preserved : goal.loop-digit-preserved
loop-digit-preserved c =
    let at = c.loop-lane in
    let outer = c.loop-digit in
    let m = c.args.m in
    let n = next _ _ _ _ (omega (arith, c.loop-digit-test.true)) outer.invariant in
    let k = n.0 in
    let done = c.loop-lane-test.false in (
      k,
      omega (arith, n.1),
      ap (λ (x : ℕ). x / 2) n.2,
      at.invariant.0,
      at.invariant.1,
      λ i inside.
          let now = at.invariant.2 i (omega (arith, done)) in
          subst₂ (Digits (get_or m i 0 * 2 ^ 23) k) (sym now.0) (sym now.1)
          (subst (λ (d : ℕ). Digits (get_or m i 0 * 2 ^ 23) k (rest_after (get_or outer.rest i 0) (get_or outer.twice i 0) d) (twice_after (get_or outer.rest i 0) (get_or outer.twice i 0) d)) (sym n.2)
          (digit-next (get_or m i 0 * 2 ^ 23) k _ _ n.1 (n.3 i inside))),
    )

pub returns : goal.returns
returns c =
    let at = c.loop-lane-2 in
    (at.invariant.0, λ i inside. at.invariant.1 i (omega (arith, c.loop-lane-2-test.false)) ∙ rounded-is _ _ _ (none _ _ _ _ (omega (arith, c.loop-digit-test.false)) c.loop-digit.invariant i inside))
