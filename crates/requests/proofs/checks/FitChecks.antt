-- What the checks find where all numbers but the preferred velocity's are fit.
--     fit-checks: nothing, too little scratch, or 3 for the preferred velocity
use mathlib.Core.Path.{◌≡◌, refl, ◌∙◌}
use mathlib.Core.Bool.{Bool, true, false}
use mathlib.Core.List.{List, []}
use Prim.Native.Nat.{ℕ, ◌+◌, ◌*◌, ◌/◌, ◌%◌, ◌≤◌, ◌<◌}
use native.Mathlib.Omega.{arith}
use lib.ListN.{length, length-append}
use lib.Ieee.{Float, nan}
use borrow.Author.Tests.{le-ltb}
use Rattle.vectors.specs.declared.Vec3.{Vec3}
use Rattle.refusals.specs.declared.Refusal.TheVariants.{ShortScratch, NotFinite}
use Rattle.refusals.specs.Verdict.{◌⊳◌, refused_if, refused_at, Verdict, passed}
use Rattle.refusals.proofs.Conditions.{first-later, first-none, found-lowest}
use Rattle.requests.specs.declared.Request.{Request}
use Rattle.requests.specs.declared.Asked.TheVariants.{Finite, InRange}
use Rattle.requests.specs.Lent.{per_agent, agent_numbers}
use Rattle.requests.specs.Request.{preferred_place, max_speed_place}
use Rattle.requests.specs.Checks.{most_neighbours, call_kind, bad_number, ragged, too_many, needed_scratch, short_scratch, checks}
use Rattle.requests.proofs.AgentNumbers.{numbers-many}
use Rattle.requests.proofs.Ranges.{never-outside}
use Rattle.requests.proofs.checks.CallNumbers.{FitRequest, FitNeighbours, vector_numbers, first_from, first-preferred}
use Rattle.std.specs.Prelude.{Option, Some, None, Err}

pub data FitVerdict : Verdict → Type 0 where
  passes : FitVerdict passed
  short_of : (needed : ℕ) → FitVerdict (Err (ShortScratch needed))
  far_preferred : (place : ℕ) → preferred_place ≤ place → place < max_speed_place → FitVerdict (Err (NotFinite place))

-- nothing, or a place of the preferred velocity
data InPreferred : Option ℕ → Type 0 where
  nowhere : InPreferred None
  somewhere : (place : ℕ) → preferred_place ≤ place → place < max_speed_place → InPreferred (Some place)

preferred-finite : (v : Vec3) → InPreferred (first_from Finite preferred_place (vector_numbers v))
preferred-finite v = go (first_from Finite preferred_place (vector_numbers v)) refl
  where
    go : (found : Option ℕ) → first_from Finite preferred_place (vector_numbers v) ≡ found → InPreferred found
    go (Some place) e =
        let lowest = found-lowest (bad_number Finite) preferred_place (vector_numbers v) nan place e in
        somewhere place (omega (arith, lowest.at)) (omega (arith, lowest.at, lowest.within))
    go None e = nowhere

-- its numbers have no range
preferred-in-range : (v : Vec3) → first_from InRange preferred_place (vector_numbers v) ≡ None
unfolding bad_number call_kind
preferred-in-range v =
    first-later (bad_number InRange) preferred_place v.x _ _ refl (never-outside v.x)
    ∙ first-later (bad_number InRange) (preferred_place + 1) v.y _ _ refl (never-outside v.y)
    ∙ first-later (bad_number InRange) (preferred_place + 2) v.z _ _ refl (never-outside v.z)
    ∙ first-none (bad_number InRange) (preferred_place + 3) [] refl

fit_length : {n : ℕ} {xs : List Float} → FitNeighbours n xs → length xs ≡ per_agent * n
fit_length FitNeighbours.none = refl
fit_length (FitNeighbours.more {n = n} {xs = xs} a fit later) = length-append (agent_numbers a) xs ∙ omega (arith, numbers-many a, fit_length later)

neighbours-whole : {n : ℕ} {xs : List Float} → FitNeighbours n xs → ragged xs ≡ false
neighbours-whole {xs = xs} fits =
    let whole : length xs % per_agent ≡ 0 = omega (arith, fit_length fits) in
    rw whole

neighbours-few : {n : ℕ} {xs : List Float} → FitNeighbours n xs → n ≤ most_neighbours → too_many xs ≡ false
neighbours-few {xs = xs} fits few = le-ltb most_neighbours (length xs / per_agent) (omega (arith, fit_length fits))

checked : (short : Bool) (needed : ℕ) (found : Option ℕ) → InPreferred found → FitVerdict (refused_if short (ShortScratch needed) ⊳ refused_at found NotFinite ⊳ passed)
checked true needed found unfinite = short_of needed
checked false needed None nowhere = passes
checked false needed (Some place) (somewhere _ low high) = far_preferred place low high

pub fit-checks : (request : Request) (neighbours : List Float) (n k : ℕ) → FitRequest request → FitNeighbours n neighbours → n ≤ most_neighbours → FitVerdict (checks request neighbours k)
unfolding checks
fit-checks request neighbours n k fit fits few =
    let in-range = first-preferred InRange request fit neighbours fits ∙ preferred-in-range request.preferred in
    rw (neighbours-whole fits, neighbours-few fits few, first-preferred Finite request fit neighbours fits, in-range, fit.unit)
    (checked (short_scratch neighbours k) (needed_scratch neighbours) _ (preferred-finite request.preferred))
