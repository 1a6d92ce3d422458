-- The velocity call's refusals as a list of conditions, each with its number and by itself. That the call gives N exactly when N's condition
-- is the first that holds is `RefusedExactly` in Claims.antt.
use Rattle.std.specs.Prelude.{ℕ, ◌≡◌, Bool, true, false, not, ◌||◌, List, [], ◌∷◌, ◌↔◌, ◌⊎◌, Float}
use Rattle.vectors.specs.Vec3.{finite_vec}
use Rattle.refusals.specs.Conditions.{First, some, marked}
use Rattle.solver.specs.declared.Outcome.{Outcome}
use Rattle.solver.specs.declared.Outcome.TheVariants.{Feasible, Infeasible, BadClamp}
use Rattle.solver.specs.Solve.{solve}
use Rattle.requests.specs.declared.Request.{Request}
use Rattle.requests.specs.declared.Asked.TheVariants.{Finite, InRange}
use Rattle.requests.specs.Checks.{bad_number, call_numbers, ragged, too_many, short_scratch, bad_fallback}
use Rattle.planes.specs.Planes.{planes_of_call, bad_plane}

unfoldable pub bad_clamp : Outcome → Bool
bad_clamp (Feasible value) = false
bad_clamp (Infeasible failure) = false
bad_clamp (BadClamp plane) = true

-- in the order of the checks
unfoldable pub velocity_conditions : Request → List Float → ℕ → List (ℕ × Bool)
velocity_conditions request neighbours scratch_length =
    let numbers = call_numbers request neighbours in
    let planes = planes_of_call request neighbours in
    let solution = solve planes request.max_speed request.preferred in
    (1, ragged neighbours)
    ∷ (17, too_many neighbours)
    ∷ (2, short_scratch neighbours scratch_length)
    ∷ (3, some (marked (bad_number Finite) 0 numbers))
    ∷ (4, some (marked (bad_number InRange) 0 numbers))
    ∷ (5, bad_fallback request.fallback)
    ∷ (6, some (marked bad_plane 0 planes))
    ∷ (18, bad_clamp solution.outcome)
    ∷ (7, not (finite_vec solution.value))
    ∷ []

-- as document 01's own table has them, where 1 is a list that is ragged or too long, and 7 a bad clamp or a velocity that is not finite
unfoldable pub document_one_conditions : Request → List Float → ℕ → List (ℕ × Bool)
document_one_conditions request neighbours scratch_length =
    let numbers = call_numbers request neighbours in
    let planes = planes_of_call request neighbours in
    let solution = solve planes request.max_speed request.preferred in
    (1, ragged neighbours || too_many neighbours)
    ∷ (2, short_scratch neighbours scratch_length)
    ∷ (3, some (marked (bad_number Finite) 0 numbers))
    ∷ (4, some (marked (bad_number InRange) 0 numbers))
    ∷ (5, bad_fallback request.fallback)
    ∷ (6, some (marked bad_plane 0 planes))
    ∷ (7, bad_clamp solution.outcome || not (finite_vec solution.value))
    ∷ []

-- the answers 1 and 17 are given for what document 01's 1 names, and 18 and 7 for what its 7 names
abbrev pub SameInputs : ℕ → List (ℕ × Bool) → Type 0
SameInputs answer document_one =
    ((answer ≡ 1) ⊎ (answer ≡ 17) ↔ First 1 document_one)
    × ((answer ≡ 7) ⊎ (answer ≡ 18) ↔ First 7 document_one)
