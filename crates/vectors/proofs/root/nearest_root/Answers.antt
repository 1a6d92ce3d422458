-- The loop's invariant: with j digits to come, the root so far and what is left over are those of `Digits`. A turn finds one digit.
use mathlib.Core.Path.{◌≡◌, refl, sym, ap, ◌∙◌, subst, subst₂}
use Prim.Native.Nat.{ℕ, suc, ◌+◌, ◌-◌, ◌*◌, ◌/◌, ◌%◌, ◌^◌, ◌≤◌, ◌<◌}
use native.Mathlib.Nat.{mod-eq_of_lt}
use native.Mathlib.Omega.{arith}
use Rattle.vectors.proofs.root.Digits.{Digits, digits-none, digit-left, digit-taken, next_place, no_place, few-digits, rounded-is}
use Rattle.vectors.proofs.root.nearest_root.Invariants.{ToCome}
use Rattle.vectors.proofs.root.nearest_root.Goals as goal
use Rattle.vectors.proofs.root.nearest_root.Goals.{then-digit_is_zero, else-digit_is_zero}

-- where there is one
One : (m rest twice digit : ℕ) → Type 0
One m rest twice digit = (k : ℕ) × (k < 24) × (digit ≡ 2 ^ k) × Digits (m * 2 ^ 23) (suc k) rest twice

one_of : (m rest twice digit : ℕ) → 0 < digit → ToCome m rest twice digit → One m rest twice digit
unfolding One
one_of m rest twice digit some (j, few, is, d) =
    let next = next_place j digit is some in
    (next.0, subst (λ (n : ℕ). n ≤ 24) next.1 few, next.2, subst (λ (n : ℕ). Digits (m * 2 ^ 23) n rest twice) next.1 d)

none_of : (m rest twice digit : ℕ) → digit ≤ 0 → ToCome m rest twice digit → Digits (m * 2 ^ 23) 0 rest twice
none_of m rest twice digit none (j, few, is, d) = subst (λ (n : ℕ). Digits (m * 2 ^ 23) n rest twice) (no_place j digit is none) d

small : (m rest twice digit : ℕ) → One m rest twice digit → (rest < 2 ^ 26) × (twice + digit + digit ≤ 2 ^ 25)
unfolding One
small m rest twice digit (k, few, is, d) = subst (λ (x : ℕ). (rest < 2 ^ 26) × (twice + x + x ≤ 2 ^ 25)) (sym is) (few-digits _ k rest twice d)

turn-left : (m rest twice digit : ℕ) → One m rest twice digit → rest < twice + digit → ToCome m (rest * 2 % 2 ^ 32) twice (digit / 2)
unfolding One
turn-left m rest twice digit (k, few, is, d) less =
    let small = small m rest twice digit (k, few, is, d) in
    let next = digit-left (m * 2 ^ 23) k rest twice few d (subst (λ (x : ℕ). rest < twice + x) is less) in
    (k, omega arith, ap (λ (x : ℕ). x / 2) is, subst (λ (r : ℕ). Digits (m * 2 ^ 23) k r twice) (sym (mod-eq_of_lt (omega (arith, small)))) next)

turn-taken : (m rest twice digit : ℕ) → One m rest twice digit → twice + digit ≤ rest → ToCome m ((rest - (twice + digit)) * 2 % 2 ^ 32) (twice + digit + digit) (digit / 2)
unfolding One
turn-taken m rest twice digit (k, few, is, d) enough =
    let small = small m rest twice digit (k, few, is, d) in
    let next = digit-taken (m * 2 ^ 23) k rest twice few d (subst (λ (x : ℕ). twice + x ≤ rest) is enough) in
    let left : (rest - (twice + digit)) * 2 % 2 ^ 32 ≡ (rest - (twice + digit)) * 2 = mod-eq_of_lt (omega (arith, small)) in (
      k,
      omega arith,
      ap (λ (x : ℕ). x / 2) is,
      subst (λ (r : ℕ). Digits (m * 2 ^ 23) k r (twice + digit + digit)) (sym left)
          (subst (λ (x : ℕ). Digits (m * 2 ^ 23) k ((rest - (twice + x)) * 2) (twice + x + x)) (sym is) next),
    )

one : (c : goal.In-loop-digit) → let at = c.loop-digit in One c.args.m at.rest at.twice at.digit
one c = one_of _ _ _ _ (omega (arith, c.loop-digit-test.true)) c.loop-digit.invariant

all : (c : goal.After-loop-digit) → let at = c.loop-digit in Digits (c.args.m * 2 ^ 23) 0 at.rest at.twice
all c = none_of _ _ _ _ (omega (arith, c.loop-digit-test.false)) c.loop-digit.invariant

pub loop-digit-init : goal.loop-digit-init
loop-digit-init c = (24, omega arith, refl, digits-none _ _ c.requires refl)

pub overflow_add-trial : goal.overflow_add-trial
overflow_add-trial c = record { fits = omega (arith, small _ _ _ _ (one c)) }

pub overflow_add-twice : goal.overflow_add-twice
overflow_add-twice c = record { fits = omega (arith, small _ _ _ _ (one c.before)) }

pub loop-digit-smaller : goal.loop-digit-smaller
loop-digit-smaller c = omega (arith, c.loop-digit-test.true)

pub loop-digit-preserved : goal.loop-digit-preserved
loop-digit-preserved c =
    let at = c.loop-digit in
    let m = c.args.m in
    elim c.if-digit_is_zero.branch [ then-digit_is_zero w ↦ subst₂ (λ (r t : ℕ). ToCome m r t (at.digit / 2)) (sym w.rest-is) (sym w.twice-is) (turn-left m at.rest at.twice at.digit (one c.before) (omega (arith, w.if-digit_is_zero.true))) | else-digit_is_zero w ↦ subst₂ (λ (r t : ℕ). ToCome m r t (at.digit / 2)) (sym w.rest-is) (sym w.twice-is) (turn-taken m at.rest at.twice at.digit (one c.before) (omega (arith, w.if-digit_is_zero.false))) ]

pub rounded-requires : goal.rounded-requires
rounded-requires c = omega (arith, (all c).twice_most)

pub returns : goal.returns
returns c = c.rounded.ensures ∙ rounded-is _ _ _ (all c.before)
