-- The velocity call's checks 1, 17, and 2 to 5, of the documents' table of numbered answers.
use Rattle.std.specs.Prelude.{ℕ, ◌-◌, ◌%◌, Bool, false, not, ◌||◌, cond, List, ◌++◌, leb, ltb, eqb, length, Float, Option}
use Rattle.vectors.specs.declared.Vec3.{Vec3}
use Rattle.vectors.specs.Number.{◌<ᶠ◌, ◌>ᶠ◌, zero, of_word, finite}
use Rattle.vectors.specs.Vec3.{dot}
use Rattle.refusals.specs.declared.Refusal.TheVariants.{RaggedNeighbours, TooManyNeighbours, ShortScratch, NotFinite, OutOfRange, BadFallback}
use Rattle.refusals.specs.Conditions.{first_bad}
use Rattle.refusals.specs.Verdict.{◌⊳◌, refused_if, refused_at, Verdict}
use Rattle.solver.specs.Lent.{scratch_for}
use Rattle.requests.specs.declared.Request.{Request}
use Rattle.requests.specs.declared.Kind.{Kind}
use Rattle.requests.specs.declared.Kind.TheVariants.{Any, NotNegative, Positive}
use Rattle.requests.specs.declared.Asked.{Asked}
use Rattle.requests.specs.declared.Asked.TheVariants.{Finite, InRange}
use Rattle.requests.specs.Lent.{per_agent, agent_count, radius_place, responsibility_place}
use Rattle.requests.specs.Request.{max_speed_place, time_step_place, horizon_place, fallback_place, per_request, request_numbers}

-- at most so many neighbours
abbrev pub most_neighbours : ℕ
most_neighbours = 63

-- scratch enough for any call
abbrev pub full_scratch : ℕ
full_scratch = scratch_for most_neighbours

-- ---- places: the request's numbers are at 0 to 16, and number j of neighbour k at 17 + 8 * k + j

-- a radius, a responsibility and the maximum speed are not below 0; the time step and the horizon are above 0
unfoldable pub call_kind : ℕ → Kind
call_kind place =
    cond (ltb place per_request)
    (cond (eqb place radius_place || eqb place responsibility_place || eqb place max_speed_place) NotNegative (cond (eqb place time_step_place || eqb place horizon_place) Positive Any))
    (cond (leb radius_place ((place - per_request) % per_agent)) NotNegative Any)

unfoldable pub outside : Kind → Float → Bool
outside Any x = false
outside NotNegative x = x <ᶠ zero
outside Positive x = not (x >ᶠ zero)

unfoldable pub bad_number : Asked → ℕ → Float → Bool
bad_number Finite place x = not (finite x)
bad_number InRange place x = outside (call_kind place) x

-- the request's numbers, then the neighbours'
abbrev pub call_numbers : Request → List Float → List Float
call_numbers request neighbours = request_numbers request ++ neighbours

-- the lowest place of a bad one
unfoldable pub first_of : Asked → Request → List Float → Option ℕ
first_of asked request neighbours = first_bad (bad_number asked) 0 (call_numbers request neighbours)

-- ---- the checks

-- a list not a multiple of 8
abbrev pub ragged : List Float → Bool
ragged neighbours = not (eqb (length neighbours % per_agent) 0)

-- over 63 neighbours
abbrev pub too_many : List Float → Bool
too_many neighbours = ltb most_neighbours (agent_count neighbours)

-- scratch for the planes of all neighbours
abbrev pub needed_scratch : List Float → ℕ
needed_scratch neighbours = scratch_for (agent_count neighbours)

abbrev pub short_scratch : List Float → ℕ → Bool
short_scratch neighbours scratch_length = ltb scratch_length (needed_scratch neighbours)

-- the fallback dotted with itself below 0.99999 or above 1.00001
unfoldable pub bad_fallback : Vec3 → Bool
bad_fallback fallback = dot fallback fallback <ᶠ of_word 0x3F7F_FF58 || dot fallback fallback >ᶠ of_word 0x3F80_0054

-- each is finished over all its numbers before the next
unfoldable pub checks : Request → List Float → ℕ → Verdict
checks request neighbours scratch_length =
    refused_if (ragged neighbours) RaggedNeighbours
    ⊳ refused_if (too_many neighbours) (TooManyNeighbours (agent_count neighbours))
    ⊳ refused_if (short_scratch neighbours scratch_length) (ShortScratch (needed_scratch neighbours))
    ⊳ refused_at (first_of Finite request neighbours) NotFinite
    ⊳ refused_at (first_of InRange request neighbours) OutOfRange
    ⊳ refused_if (bad_fallback request.fallback) (BadFallback fallback_place)
