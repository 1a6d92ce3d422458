-- A stored agent whose record passed is fit for a velocity call: as the agent or a neighbour, and in the other numbers that it gives to a request.
use mathlib.Core.Path.{◌≡◌}
use mathlib.Core.Bool.{true}
use Prim.Native.Nat.{ℕ, ◌+◌, ◌<◌}
use native.Mathlib.Omega.{arith}
use lib.ListN.{length}
use Rattle.vectors.specs.Vec3.{finite_vec}
use Rattle.vectors.proofs.Finite.{finite-whole}
use Rattle.requests.specs.declared.Kind.TheVariants.{NotNegative, Positive}
use Rattle.requests.proofs.checks.CallNumbers.{Allowed, FitAgent}
use Rattle.refusals.specs.Verdict.{passed}
use Rattle.records.specs.declared.Record.{Record}
use Rattle.records.specs.Record.{per_record, position_word, velocity_word, radius_word, responsibility_word, max_speed_word, horizon_word, fallback_word, margin_word, number_at, vector_from, max_speed_of, horizon_of, fallback_of, agent_of}
use Rattle.records.specs.Checks.{word_kind, record_verdict}
use Rattle.records.proofs.Passed.{passed-finite, passed-kind}

module _ (r : Record) (passes : record_verdict 0 r ≡ passed) (all : length r.words ≡ per_record) where
  allowed : (place : ℕ) → place < margin_word → Allowed (word_kind place) (number_at r place)
  allowed place h = (passed-finite r passes all place (omega arith) (λ e. omega arith), passed-kind r passes all place (omega arith))

  vector-finite : (place : ℕ) → place + 2 < margin_word → finite_vec (vector_from r place) ≡ true
  unfolding vector_from
  vector-finite place h = finite-whole (vector_from r place) (allowed place (omega arith)).0 (allowed (place + 1) (omega arith)).0 (allowed (place + 2) h).0

  pub fit-agent : FitAgent (agent_of r)
  unfolding agent_of word_kind
  fit-agent = record {
    position = vector-finite position_word (omega arith);
    velocity = vector-finite velocity_word (omega arith);
    radius = allowed radius_word (omega arith);
    responsibility = allowed responsibility_word (omega arith);
  }

  pub max-speed-allowed : Allowed NotNegative (max_speed_of r)
  unfolding word_kind
  max-speed-allowed = allowed max_speed_word (omega arith)

  pub horizon-allowed : Allowed Positive (horizon_of r)
  unfolding word_kind
  horizon-allowed = allowed horizon_word (omega arith)

  pub fallback-finite : finite_vec (fallback_of r) ≡ true
  fallback-finite = vector-finite fallback_word (omega arith)
