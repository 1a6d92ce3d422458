-- What the velocity call is given is fit where the records pass their checks: request-fit, neighbours-fit.
use mathlib.Core.Path.{◌≡◌}
use mathlib.Core.Bool.{Bool, true, false, not, ◌&&◌, cond}
use mathlib.Core.List.{List, [], ◌∷◌}
use Prim.Native.Nat.{ℕ, suc, ◌+◌, ◌≤◌, ◌<◌}
use native.Mathlib.Omega.{arith}
use lib.Dec.{eqb}
use lib.Ieee.{Float}
use lib.ListN.{length, get_or}
use Rattle.requests.specs.declared.Kind.TheVariants.{Positive}
use Rattle.requests.proofs.checks.CallNumbers.{Allowed, FitAgent, FitRequest, FitNeighbours}
use Rattle.records.specs.declared.Record.{Record}
use Rattle.records.specs.Record.{per_record, blank, agent_of}
use Rattle.records.specs.Checks.{record_verdict}
use Rattle.records.proofs.Passed.{passed-fallback}
use Rattle.records.proofs.FitRecords.{fit-agent, max-speed-allowed, horizon-allowed, fallback-finite}
use Rattle.planner.specs.declared.Rule.{Rule}
use Rattle.planner.specs.Plan.{keeps, kept_from, neighbour_numbers, request_for, own_record, neighbour_indices, neighbours_of}
use Rattle.refusals.specs.Verdict.{passed}

pub request-fit : (own : Record) (time_step : Float) → record_verdict 0 own ≡ passed → length own.words ≡ per_record → Allowed Positive time_step → FitRequest (request_for own time_step)
unfolding request_for
request-fit own time_step passes words accepted = record {
  agent = fit-agent own passes words;
  max-speed = max-speed-allowed own passes words;
  time-step = accepted;
  horizon = horizon-allowed own passes words;
  fallback = fallback-finite own passes words;
  unit = passed-fallback own passes;
}

-- those kept from the index j on
kept-fit : (rule : Rule) (own : Record) (index : ℕ) (all : List Record) (j : ℕ) (rs : List Record) → ((i : ℕ) → j ≤ i → i < j + length rs → FitAgent (agent_of (get_or all i blank)))
    → FitNeighbours (length (kept_from rule own index j rs)) (neighbour_numbers all (kept_from rule own index j rs))
unfolding kept_from neighbour_numbers
kept-fit rule own index all j [] fit = FitNeighbours.none
kept-fit rule own index all j (r ∷ rs) fit =
    go (not (eqb j index) && keeps rule own r) (kept-fit rule own index all (suc j) rs (λ i low high. fit i (omega (arith, low)) (omega (arith, high))))
  where
    later : List ℕ
    later = kept_from rule own index (suc j) rs

    go : (b : Bool) → FitNeighbours (length later) (neighbour_numbers all later) → FitNeighbours (length (cond b (j ∷ later) later)) (neighbour_numbers all (cond b (j ∷ later) later))
    go true fits = FitNeighbours.more (agent_of (get_or all j blank)) (fit j (omega arith) (omega arith)) fits
    go false fits = fits

pub neighbours-fit : (rule : Rule) (rs : List Record) (index : ℕ) → ((i : ℕ) → i < length rs → FitAgent (agent_of (get_or rs i blank)))
    → FitNeighbours (length (neighbour_indices rule rs index)) (neighbours_of rule rs index)
unfolding neighbour_indices neighbours_of
neighbours-fit rule rs index fit = kept-fit rule (own_record rs index) index rs 0 rs (λ i low high. fit i (omega (arith, high)))
