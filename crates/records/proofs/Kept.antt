-- A record that passed still passes with another goal, and where it has moved.
--     goal-passes, moved_passes; and it has as many words as before: goal-words, moved-words
use mathlib.Core.Path.{◌≡◌, refl, ◌∙◌}
use mathlib.Core.Bool.{true}
use Prim.Native.Nat.{ℕ, ◌+◌, ◌<◌, ◌≤◌}
use native.Mathlib.Omega.{arith}
use lib.Dec.{T}
use lib.ListN.{length, set, length-set}
use lib.Seq.{get_or-set_other}
use lib.Ieee.{Float, binary32, fits}
use borrow.Author.Tests.{ne_eqb}
use Rattle.vectors.specs.declared.Vec3.{Vec3}
use Rattle.vectors.specs.Number.{to_word, finite}
use Rattle.vectors.specs.Vec3.{finite_vec, IsBinary32}
use Rattle.vectors.proofs.Finite.{finite-parts}
use Rattle.vectors.proofs.Stored.{stored-finite}
use Rattle.refusals.proofs.Conditions.{set-good}
use Rattle.requests.specs.declared.Asked.TheVariants.{Finite, InRange}
use Rattle.requests.specs.declared.Kind.TheVariants.{Any}
use Rattle.requests.proofs.Ranges.{never-outside}
use Rattle.records.specs.declared.Record.{Record}
use Rattle.records.specs.Record.{position_word, velocity_word, goal_word, fallback_word, margin_word, distance_word, word_at, number_at, vector_from, with_vector, with_goal, moved_to}
use Rattle.records.specs.Checks.{bad_margin, word_kind, bad_word}
use Rattle.records.specs.Claims.{GoalPasses, MovedPasses}
use Rattle.records.proofs.Passed.{Fit, passed-fit, fit_passed}

-- ---- one word before the fallback's, of a kind with no range

module _ (r : Record) (i : ℕ) (x : Float) (before : i < fallback_word) where
  abbrev put : Record
  put = record { words = set r.words i (to_word x) }

  unread : (place : ℕ) → fallback_word ≤ place → word_at put place ≡ word_at r place
  unfolding word_at
  unread place h = get_or-set_other r.words i place (to_word x) 0 (λ e. omega arith)

  word_fit : word_kind i ≡ Any → finite x ≡ true → T (fits binary32 x) → Fit r → Fit put
  unfolding bad_margin bad_word vector_from number_at
  word_fit kind x-finite is fit = record {
    margin = rw (unread margin_word (omega arith), unread distance_word (omega arith)) fit.margin;
    all-finite = set-good (bad_word Finite) r.words i (to_word x) 0 (rw (ne_eqb i margin_word (λ e. omega arith), stored-finite x is x-finite)) fit.all-finite;
    in-range = set-good (bad_word InRange) r.words i (to_word x) 0 (rw kind (never-outside _)) fit.in-range;
    fallback = rw (unread fallback_word (omega arith), unread (fallback_word + 1) (omega arith), unread (fallback_word + 2) (omega arith)) fit.fallback;
  }

-- ---- three of them

vector-fit : (r : Record) (place : ℕ) (v : Vec3) → place + 2 < fallback_word → (word_kind place ≡ Any) × (word_kind (place + 1) ≡ Any) × (word_kind (place + 2) ≡ Any)
    → finite_vec v ≡ true → IsBinary32 v → Fit r → Fit (with_vector r place v)
unfolding with_vector
vector-fit r place v before kinds e is fit =
    let (x-finite, (y-finite, z-finite)) = finite-parts v e in
    word_fit _ (place + 2) v.z before kinds.2 z-finite is.2
    (word_fit _ (place + 1) v.y (omega arith) kinds.1 y-finite is.1
    (word_fit r place v.x (omega arith) kinds.0 x-finite is.0 fit))

vector-words : (r : Record) (place : ℕ) (v : Vec3) → length (with_vector r place v).words ≡ length r.words
unfolding with_vector
vector-words r place v = simp length-set

-- ---- a record's goal, its position and its velocity

pub goal-words : (r : Record) (goal : Vec3) → length (with_goal goal r).words ≡ length r.words
unfolding with_goal
goal-words r goal = vector-words r goal_word goal

pub moved-words : (r : Record) (position velocity : Vec3) → length (moved_to r position velocity).words ≡ length r.words
unfolding moved_to
moved-words r position velocity = vector-words (with_vector r velocity_word velocity) position_word position ∙ vector-words r velocity_word velocity

pub goal-passes : GoalPasses
unfolding with_goal word_kind
goal-passes r goal passed e is = fit_passed 0 (with_goal goal r) (vector-fit r goal_word goal (omega arith) (refl, refl, refl) e is (passed-fit 0 r passed))

pub moved_passes : MovedPasses
unfolding moved_to word_kind
moved_passes r position velocity passed position-finite position-is velocity-finite velocity-is =
    fit_passed 0 (moved_to r position velocity)
    (vector-fit (with_vector r velocity_word velocity) position_word position (omega arith) (refl, refl, refl) position-finite position-is
    (vector-fit r velocity_word velocity (omega arith) (refl, refl, refl) velocity-finite velocity-is (passed-fit 0 r passed)))
