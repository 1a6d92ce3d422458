-- What a record that passed is: finite, each number in its range, its fallback of length 1; and whether it passes does not depend on where it stands.
use mathlib.Core.Path.{◌≡◌, refl, ap, ◌∙◌}
use mathlib.Core.Bool.{false}
use mathlib.Core.List.{List, [], ◌∷◌}
use Prim.Native.Nat.{ℕ, zero, suc, ◌+◌, ◌*◌, ◌<◌}
use native.Mathlib.Nat.{not-suc-le-zero, le_of_suc-le-suc, zero-lt-suc, zero-add}
use native.Mathlib.Omega.{arith}
use lib.ListN.{length, get_or}
use borrow.Author.Tests.{ne_eqb, not-false}
use Rattle.std.specs.Prelude.{None}
use Rattle.vectors.specs.Number.{finite}
use Rattle.refusals.specs.declared.Refusal.TheVariants.{NotFinite, OutOfRange, BadFallback, BadMargin}
use Rattle.refusals.specs.Conditions.{first_bad}
use Rattle.refusals.specs.Verdict.{Verdict, passed, ◌⊳◌, refused_if, refused_at}
use Rattle.refusals.proofs.Conditions.{none-bad}
use Rattle.refusals.proofs.Verdicts.{both-passed, nothing-found, does-not-hold}
use Rattle.requests.specs.declared.Asked.TheVariants.{Finite, InRange}
use Rattle.requests.specs.Checks.{bad_fallback}
use Rattle.records.specs.declared.Record.{Record}
use Rattle.records.specs.Record.{per_record, fallback_word, margin_word, blank, word_at, number_at, fallback_of}
use Rattle.records.specs.Checks.{bad_margin, bad_word, record_verdict}
use Rattle.records.specs.File.{records_verdict}
use Rattle.records.specs.Claims.{PassedFinite, PassedKind, PassedFallback}

-- ---- the four checks

-- none of them finds anything
pub record Fit (r : Record) : Type 0 where
  pub margin : bad_margin r ≡ None
  pub all-finite : first_bad (bad_word Finite) 0 r.words ≡ None
  pub in-range : first_bad (bad_word InRange) 0 r.words ≡ None
  pub fallback : bad_fallback (fallback_of r) ≡ false

pub passed-fit : (start : ℕ) (r : Record) → record_verdict start r ≡ passed → Fit r
unfolding record_verdict
passed-fit start r e =
    let unfit = refused_if (bad_fallback (fallback_of r)) (BadFallback (start + fallback_word)) in
    let outside = refused_at (first_bad (bad_word InRange) 0 r.words) (λ place. OutOfRange (start + place)) in
    let unfinite = refused_at (first_bad (bad_word Finite) 0 r.words) (λ place. NotFinite (start + place)) in
    let margin = refused_at (bad_margin r) (λ place. BadMargin (start + place)) in
    let (first, after_first) = both-passed margin (unfinite ⊳ outside ⊳ unfit) e in
    let (second, after-second) = both-passed unfinite (outside ⊳ unfit) after_first in
    let (third, fourth) = both-passed outside unfit after-second in
    record {
      margin = nothing-found (bad_margin r) (λ place. BadMargin (start + place)) first;
      all-finite = nothing-found (first_bad (bad_word Finite) 0 r.words) (λ place. NotFinite (start + place)) second;
      in-range = nothing-found (first_bad (bad_word InRange) 0 r.words) (λ place. OutOfRange (start + place)) third;
      fallback = does-not-hold (bad_fallback (fallback_of r)) (BadFallback (start + fallback_word)) fourth;
    }

pub fit_passed : (start : ℕ) (r : Record) → Fit r → record_verdict start r ≡ passed
unfolding record_verdict
fit_passed start r fit = rw (fit.margin, fit.all-finite, fit.in-range, fit.fallback)

pub place-free : (start : ℕ) (r : Record) → record_verdict start r ≡ passed → record_verdict 0 r ≡ passed
place-free start r e = fit_passed 0 r (passed-fit start r e)

-- where all records pass, each does, at its own place
pub each-passed : (start : ℕ) (rs : List Record) (k : ℕ) → records_verdict start rs ≡ passed → k < length rs → record_verdict (start + per_record * k) (get_or rs k blank) ≡ passed
unfolding records_verdict
each-passed start [] k e h = absurd (not-suc-le-zero h)
each-passed start (r ∷ rs) zero e h =
    let here : start + per_record * 0 ≡ start = omega arith in
    ap (λ (place : ℕ). record_verdict place r) here ∙ (both-passed (record_verdict start r) (records_verdict (start + per_record) rs) e).0
each-passed start (r ∷ rs) (suc k) e h =
    let there : start + per_record * suc k ≡ start + per_record + per_record * k = omega arith in
    ap (λ (place : ℕ). record_verdict place (get_or rs k blank)) there
    ∙ each-passed (start + per_record) rs k (both-passed (record_verdict start r) (records_verdict (start + per_record) rs) e).1 (le_of_suc-le-suc h)

-- and where each passes by itself, all do
pub all-passed : (start : ℕ) (rs : List Record) → ((k : ℕ) → k < length rs → record_verdict 0 (get_or rs k blank) ≡ passed) → records_verdict start rs ≡ passed
unfolding records_verdict
all-passed start [] passes = refl
all-passed start (r ∷ rs) passes =
    ap (λ (v : Verdict). v ⊳ records_verdict (start + per_record) rs) (fit_passed start r (passed-fit 0 r (passes 0 (zero-lt-suc (length rs)))))
    ∙ all-passed (start + per_record) rs (λ k h. passes (suc k) (omega (arith, h)))

-- ---- its words

-- every number is finite; the margin word is no number
pub passed-finite : PassedFinite
unfolding bad_word number_at word_at
passed-finite r passes all place h other =
    let good = none-bad (bad_word Finite) 0 r.words (passed-fit 0 r passes).all-finite place 0 (omega arith) in
    not-false (finite (number_at r place)) (simp (zero-add, ne_eqb place margin_word other) at good)

pub passed-kind : PassedKind
unfolding bad_word number_at word_at
passed-kind r passes all place h =
    let good = none-bad (bad_word InRange) 0 r.words (passed-fit 0 r passes).in-range place 0 (omega arith) in
    simp zero-add at good

pub passed-fallback : PassedFallback
passed-fallback r passes = (passed-fit 0 r passes).fallback
