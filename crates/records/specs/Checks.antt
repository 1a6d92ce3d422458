-- The record checks 15, 3, 4 and 5.
use Rattle.std.specs.Prelude.{ℕ, ◌+◌, Bool, not, ◌&&◌, ◌||◌, cond, leb, ltb, eqb, Option, Some, None, Err}
use Rattle.vectors.specs.Number.{of_word, finite}
use Rattle.refusals.specs.declared.Refusal.TheVariants.{NotFinite, OutOfRange, BadFallback, BadMargin, NoAgent}
use Rattle.refusals.specs.Conditions.{first_bad}
use Rattle.refusals.specs.Verdict.{Verdict, passed, ◌⊳◌, refused_if, refused_at}
use Rattle.requests.specs.declared.Asked.{Asked}
use Rattle.requests.specs.declared.Asked.TheVariants.{Finite, InRange}
use Rattle.requests.specs.declared.Kind.{Kind}
use Rattle.requests.specs.declared.Kind.TheVariants.{Any, NotNegative, Positive}
use Rattle.requests.specs.Checks.{outside, bad_fallback}
use Rattle.records.specs.declared.Record.{Record}
use Rattle.records.specs.Record.{radius_word, responsibility_word, max_speed_word, horizon_word, fallback_word, margin_word, distance_word, word_at, fallback_of}

-- one of so many has that index
abbrev pub index_among : ℕ → ℕ → Verdict
index_among count index = cond (ltb index count) passed (Err (NoAgent index))

-- margin word not 0 or 1, or margin 0 with word 18 not all zero
unfoldable pub bad_margin : Record → Option ℕ
bad_margin r =
    cond (leb (word_at r margin_word) 1)
    (cond (eqb (word_at r margin_word) 0 && not (eqb (word_at r distance_word) 0)) (Some distance_word) None)
    (Some margin_word)

-- radius, responsibility and maximum speed are not below 0; the horizon is above 0
unfoldable pub word_kind : ℕ → Kind
word_kind place = cond (eqb place radius_word || eqb place responsibility_word || eqb place max_speed_word) NotNegative (cond (eqb place horizon_word) Positive Any)

-- 3 covers all words but the margin's
unfoldable pub bad_word : Asked → ℕ → ℕ → Bool
bad_word Finite place word = not (eqb place margin_word) && not (finite (of_word word))
bad_word InRange place word = outside (word_kind place) (of_word word)

-- 15, 3, 4, 5, each finished over all its words before the next; word 0 is at the place `start`
unfoldable pub record_verdict : ℕ → Record → Verdict
record_verdict start r =
    refused_at (bad_margin r) (λ place. BadMargin (start + place))
    ⊳ refused_at (first_bad (bad_word Finite) 0 r.words) (λ place. NotFinite (start + place))
    ⊳ refused_at (first_bad (bad_word InRange) 0 r.words) (λ place. OutOfRange (start + place))
    ⊳ refused_if (bad_fallback (fallback_of r)) (BadFallback (start + fallback_word))
