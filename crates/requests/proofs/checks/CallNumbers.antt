-- The numbers of a velocity call that are fit for it, and that where all but the preferred velocity are, no other number is bad.
use mathlib.Core.Path.{◌≡◌, refl, ap, ◌∙◌}
use mathlib.Core.Bool.{true, false, not, cond}
use mathlib.Core.List.{List, [], ◌∷◌, ◌++◌}
use Prim.Native.Nat.{ℕ, zero, suc, ◌+◌, ◌-◌, ◌*◌, ◌%◌, ◌<◌}
use native.Mathlib.Omega.{arith}
use lib.Dec.{leb}
use lib.ListN.{length, get_or}
use lib.Ieee.{Float, nan}
use borrow.Author.Tests.{le-ltb}
use Rattle.vectors.specs.declared.Vec3.{Vec3}
use Rattle.vectors.specs.Number.{finite}
use Rattle.vectors.specs.Vec3.{finite_vec}
use Rattle.vectors.proofs.Finite.{finite-parts}
use Rattle.refusals.specs.Conditions.{first_bad}
use Rattle.refusals.proofs.Conditions.{or_else, bad-append, first-later, first-none, all-good}
use Rattle.requests.specs.declared.Agent.{Agent}
use Rattle.requests.specs.declared.Request.{Request}
use Rattle.requests.specs.declared.Kind.{Kind}
use Rattle.requests.specs.declared.Kind.TheVariants.{Any, NotNegative, Positive}
use Rattle.requests.specs.declared.Asked.{Asked}
use Rattle.requests.specs.declared.Asked.TheVariants.{Finite, InRange}
use Rattle.requests.specs.Lent.{per_agent, radius_place, agent_numbers}
use Rattle.requests.specs.Request.{preferred_place, max_speed_place, time_step_place, horizon_place, fallback_place, per_request, request_numbers}
use Rattle.requests.specs.Checks.{call_kind, outside, bad_number, first_of, bad_fallback}
use Rattle.requests.proofs.AgentNumbers.{numbers-many}
use Rattle.requests.proofs.Ranges.{never-outside}
use Rattle.std.specs.Prelude.{Option, Some, None}

-- a number that is asked whether it is finite, wherever it stands
pub bad-if-not-finite : (place : ℕ) (x : Float) → bad_number Finite place x ≡ not (finite x)
unfolding bad_number
bad-if-not-finite place x = refl

-- ---- fit numbers

abbrev pub Allowed : Kind → Float → Type 0
Allowed kind x = (finite x ≡ true) × (outside kind x ≡ false)

pub record FitAgent (a : Agent) : Type 0 where
  pub position : finite_vec a.position ≡ true
  pub velocity : finite_vec a.velocity ≡ true
  pub radius : Allowed NotNegative a.radius
  pub responsibility : Allowed NotNegative a.responsibility

-- the preferred velocity may be anything
pub record FitRequest (request : Request) : Type 0 where
  pub agent : FitAgent request.agent
  pub max-speed : Allowed NotNegative request.max_speed
  pub time-step : Allowed Positive request.time_step
  pub horizon : Allowed Positive request.horizon
  pub fallback : finite_vec request.fallback ≡ true
  pub unit : bad_fallback request.fallback ≡ false

-- the numbers of so many fit agents, one after another
pub data FitNeighbours : ℕ → List Float → Type 0 where
  none : FitNeighbours 0 []
  more : {n : ℕ} {xs : List Float} (a : Agent) → FitAgent a → FitNeighbours n xs → FitNeighbours (suc n) (agent_numbers a ++ xs)

-- ---- no fit number is bad

good : (asked : Asked) (place : ℕ) (kind : Kind) (x : Float) → call_kind place ≡ kind → Allowed kind x → bad_number asked place x ≡ false
unfolding bad_number
good Finite place kind x is (x-finite, inside) = rw x-finite
good InRange place kind x is (x-finite, inside) = rw is inside

-- the kind of an agent's number, radius and responsibility being its last
abbrev agent_kind : ℕ → Kind
agent_kind j = cond (leb radius_place j) NotNegative Any

-- the places from p on are an agent's
abbrev AgentFrom : ℕ → Type 0
AgentFrom p = (j : ℕ) → j < per_agent → call_kind (p + j) ≡ agent_kind j

own-places : AgentFrom 0
unfolding call_kind
own-places zero h = refl
own-places (suc zero) h = refl
own-places (suc (suc zero)) h = refl
own-places (suc (suc (suc zero))) h = refl
own-places (suc (suc (suc (suc zero)))) h = refl
own-places (suc (suc (suc (suc (suc zero))))) h = refl
own-places (suc (suc (suc (suc (suc (suc zero)))))) h = refl
own-places (suc (suc (suc (suc (suc (suc (suc zero))))))) h = refl
own-places (suc (suc (suc (suc (suc (suc (suc (suc j)))))))) h = absurd (omega arith)

neighbour-places : (k : ℕ) → AgentFrom (per_request + per_agent * k)
unfolding call_kind
neighbour-places k j h =
    let within : (per_request + per_agent * k + j - per_request) % per_agent ≡ j = omega arith in
    rw (le-ltb (per_request + per_agent * k + j) per_request (omega arith), within)

-- the request's numbers after its agent's: the preferred velocity, and the others, with the neighbours after them
abbrev pub vector_numbers : Vec3 → List Float
vector_numbers v = v.x ∷ v.y ∷ v.z ∷ []

abbrev other_numbers : Request → List Float → List Float
other_numbers request neighbours = request.max_speed ∷ request.time_step ∷ request.horizon ∷ vector_numbers request.fallback ++ neighbours

or_nothing : (found : Option ℕ) → or_else found None ≡ found
or_nothing (Some place) = refl
or_nothing None = refl

module _ (asked : Asked) where
  abbrev pub first_from : ℕ → List Float → Option ℕ
  first_from place xs = first_bad (bad_number asked) place xs

  agent-good : (p : ℕ) (a : Agent) → AgentFrom p → FitAgent a → first_from p (agent_numbers a) ≡ None
  unfolding agent_numbers
  agent-good p a kinds fit = all-good (bad_number asked) p (agent_numbers a) nan go
    where
      at : (j : ℕ) → j < per_agent → (x : Float) → Allowed (agent_kind j) x → bad_number asked (p + j) x ≡ false
      at j h x allowed = good asked (p + j) (agent_kind j) x (kinds j h) allowed

      go : (j : ℕ) → j < per_agent → bad_number asked (p + j) (get_or (agent_numbers a) j nan) ≡ false
      go zero h = at 0 h _ ((finite-parts a.position fit.position).0, never-outside _)
      go (suc zero) h = at 1 h _ ((finite-parts a.position fit.position).1.0, never-outside _)
      go (suc (suc zero)) h = at 2 h _ ((finite-parts a.position fit.position).1.1, never-outside _)
      go (suc (suc (suc zero))) h = at 3 h _ ((finite-parts a.velocity fit.velocity).0, never-outside _)
      go (suc (suc (suc (suc zero)))) h = at 4 h _ ((finite-parts a.velocity fit.velocity).1.0, never-outside _)
      go (suc (suc (suc (suc (suc zero))))) h = at 5 h _ ((finite-parts a.velocity fit.velocity).1.1, never-outside _)
      go (suc (suc (suc (suc (suc (suc zero)))))) h = at 6 h a.radius fit.radius
      go (suc (suc (suc (suc (suc (suc (suc zero))))))) h = at 7 h a.responsibility fit.responsibility
      go (suc (suc (suc (suc (suc (suc (suc (suc j)))))))) h = absurd (omega arith)

  -- none of the first ones is bad, and the next come after them
  passed_over : (p : ℕ) (xs ys : List Float) → first_from p xs ≡ None → first_from p (xs ++ ys) ≡ first_from (p + length xs) ys
  passed_over p xs ys none_of = bad-append (bad_number asked) p xs ys ∙ ap (λ (found : Option ℕ). or_else found (first_from (p + length xs) ys)) none_of

  neighbours-good : (k : ℕ) {n : ℕ} {xs : List Float} → FitNeighbours n xs → first_from (per_request + per_agent * k) xs ≡ None
  neighbours-good k none = first-none (bad_number asked) (per_request + per_agent * k) [] refl
  neighbours-good k (more {xs = xs} a fit later) =
      let p = per_request + per_agent * k in
      let next : p + length (agent_numbers a) ≡ per_request + per_agent * suc k = omega (arith, numbers-many a) in
      passed_over p (agent_numbers a) xs (agent-good p a (neighbour-places k) fit)
      ∙ ap (λ (place : ℕ). first_from place xs) next
      ∙ neighbours-good (suc k) later

  one-good : (place : ℕ) (kind : Kind) (x : Float) (xs : List Float) → call_kind place ≡ kind → Allowed kind x → first_from (place + 1) xs ≡ None → first_from place (x ∷ xs) ≡ None
  one-good place kind x xs is allowed later = first-later (bad_number asked) place x xs (x ∷ xs) refl (good asked place kind x is allowed) ∙ later

  module _ (request : Request) (fit : FitRequest request) {n : ℕ} (neighbours : List Float) (fits : FitNeighbours n neighbours) where
    others-good : first_from max_speed_place (other_numbers request neighbours) ≡ None
    unfolding call_kind
    others-good =
        let (x-finite, (y-finite, z-finite)) = finite-parts request.fallback fit.fallback in
        one-good max_speed_place NotNegative _ _ refl fit.max-speed
        (one-good time_step_place Positive _ _ refl fit.time-step
        (one-good horizon_place Positive _ _ refl fit.horizon
        (one-good fallback_place Any _ _ refl (x-finite, never-outside _)
        (one-good (fallback_place + 1) Any _ _ refl (y-finite, never-outside _)
        (one-good (fallback_place + 2) Any _ _ refl (z-finite, never-outside _) (neighbours-good 0 fits))))))

    -- so the first bad number is the preferred velocity's
    pub first-preferred : first_of asked request neighbours ≡ first_from preferred_place (vector_numbers request.preferred)
    unfolding first_of request_numbers agent_numbers
    first-preferred =
        let preferred = vector_numbers request.preferred in
        let others = other_numbers request neighbours in
        passed_over 0 (agent_numbers request.agent) (preferred ++ others) (agent-good 0 request.agent own-places fit.agent)
        ∙ bad-append (bad_number asked) preferred_place preferred others
        ∙ ap (or_else (first_from preferred_place preferred)) others-good
        ∙ or_nothing (first_from preferred_place preferred)
