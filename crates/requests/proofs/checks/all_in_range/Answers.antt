-- Each turn passes over a neighbour's eight numbers: six may be anything, and neither of the last two is negative while `all` holds.
use mathlib.Core.Path.{◌≡◌, sym, ap, ◌∙◌}
use mathlib.Core.Bool.{Bool, false, cond, false≢true}
use mathlib.Core.List.{List}
use Prim.Native.Nat.{ℕ, ◌+◌, ◌-◌, ◌*◌, ◌%◌, ◌≤◌, ◌<◌}
use native.Mathlib.Omega.{arith}
use lib.Dec.{leb}
use lib.Ieee.{Float, nan}
use lib.ListN.{length, get_or, drop}
use borrow.Author.Tests.{le-ltb, le-leb, lt-leb}
use Rattle.vectors.specs.Number.{◌<ᶠ◌, zero}
use Rattle.requests.specs.declared.Asked.TheVariants.{InRange}
use Rattle.requests.specs.declared.Kind.{Kind}
use Rattle.requests.specs.declared.Kind.TheVariants.{Any, NotNegative}
use Rattle.refusals.specs.Conditions.{first_bad}
use Rattle.refusals.proofs.Conditions.{bad-later, bad-skip, bad-past}
use Rattle.requests.specs.Checks.{bad_number, outside, call_kind}
use Rattle.requests.proofs.checks.all_in_range.Goals as goal
use Rattle.requests.proofs.checks.all_in_range.Goals.{then-is_negative, else-is_negative}
use Rattle.std.specs.Prelude.{Option}

-- what is asked of a neighbour's number k
kind-of : (index k : ℕ) → k < 8 → call_kind (17 + (8 * index + k)) ≡ cond (leb 6 k) NotNegative Any
unfolding call_kind
kind-of index k h =
    let number : (17 + (8 * index + k) - 17) % 8 ≡ k = omega (arith, h) in
    simp (le-ltb (17 + (8 * index + k)) 17 (omega arith), number)

any : (index k : ℕ) (x : Float) → k < 6 → bad_number InRange (17 + (8 * index + k)) x ≡ false
unfolding bad_number outside
any index k x h = ap (λ (kind : Kind). outside kind x) (kind-of index k (omega (arith, h)) ∙ ap (λ (b : Bool). cond b NotNegative Any) (lt-leb _ _ h))

last : (index k : ℕ) (x : Float) → 6 ≤ k → k < 8 → x <ᶠ zero ≡ false → bad_number InRange (17 + (8 * index + k)) x ≡ false
unfolding bad_number outside
last index k x h g is = ap (λ (kind : Kind). outside kind x) (kind-of index k g ∙ ap (λ (b : Bool). cond b NotNegative Any) (le-leb _ _ h)) ∙ is

-- a neighbour is passed over
neighbour : (index : ℕ) (xs : List Float) → 8 * index + 8 ≤ length xs → (get_or xs (8 * index + 6) nan <ᶠ zero ≡ false) × (get_or xs (8 * index + 7) nan <ᶠ zero ≡ false)
    → first_bad (bad_number InRange) (17 + 8 * index) (drop (8 * index) xs) ≡ first_bad (bad_number InRange) (17 + 8 * (index + 1)) (drop (8 * (index + 1)) xs)
neighbour index xs h good =
    let from : ℕ → (Option ℕ) = λ k. first_bad (bad_number InRange) (17 + k) (drop k xs) in
    let seventh : 8 * index + 6 + 1 ≡ 8 * index + 7 = omega arith in
    let next : 8 * index + 7 + 1 ≡ 8 * (index + 1) = omega arith in
    bad-skip (bad_number InRange) 6 17 (8 * index) xs nan (omega (arith, h)) (λ k less. any index k _ less)
    ∙ bad-later (bad_number InRange) 17 (8 * index + 6) xs nan (omega (arith, h)) (last index 6 _ (omega arith) (omega arith) good.0)
    ∙ ap from seventh
    ∙ bad-later (bad_number InRange) 17 (8 * index + 7) xs nan (omega (arith, h)) (last index 7 _ (omega arith) (omega arith) good.1)
    ∙ ap from next

pub loop-index-preserved : goal.loop-index-preserved
loop-index-preserved c =
    elim c.if-is_negative.branch [ then-is_negative w ↦ λ all. absurd (false≢true (sym w.all-is ∙ all)) | else-is_negative w ↦ λ all. sym (neighbour c.loop-index.index c.args.numbers.now (omega arith) (c.is_negative.ensures w.if-is_negative.false)) ∙ c.loop-index.invariant (sym w.all-is ∙ all) ]

pub returns : goal.returns
returns c =
    λ all. sym (c.loop-index.invariant all) ∙ bad-past (bad_number InRange) _ (8 * c.loop-index.index) c.args.numbers.now (omega arith)
