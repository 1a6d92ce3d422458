-- The planes from the neighbours: `get_plane_for_neighbour` for each, which of the neighbours are unseen, and what is written of the planes.
use Rattle.std.specs.Prelude.{ℕ, zero, suc, Bool, not, ◌&&◌, cond, List, [], ◌∷◌, drop, Float, Option, Some, None, Result, Ok, Err}
use Rattle.vectors.specs.Vec3.{finite_vec}
use Rattle.refusals.specs.declared.Refusal.{Refusal}
use Rattle.refusals.specs.declared.Refusal.TheVariants.{PlaneNotFinite}
use Rattle.refusals.specs.Conditions.{first_bad}
use Rattle.solver.specs.declared.Plane.{Plane}
use Rattle.solver.specs.Lent.{with_plane}
use Rattle.requests.specs.declared.Request.{Request}
use Rattle.requests.specs.Lent.{per_agent, agent_count}
use Rattle.planes.specs.declared.NeighbourPlane.{NeighbourPlane}
use Rattle.planes.specs.Lent.{agent_at}
use Rattle.planes.specs.Neighbour.{plane_for}

-- ---- planes from neighbours, and which of these are unseen

-- for the neighbour in the first numbers of a list
unfoldable pub plane_of : Request → List Float → NeighbourPlane
plane_of request xs = plane_for request.agent (agent_at xs) request.horizon request.time_step request.fallback

-- something made of each of the first n neighbours of a list of numbers
unfoldable pub each_from : {A : Type 0} → (List Float → A) → ℕ → List Float → List A
each_from f zero xs = []
each_from f (suc n) xs = f xs ∷ each_from f n (drop per_agent xs)

abbrev pub planes_from : Request → ℕ → List Float → List Plane
planes_from request n xs = each_from (λ (neighbour : List Float). (plane_of request neighbour).plane) n xs

abbrev pub unseen_from : Request → ℕ → List Float → List Bool
unseen_from request n xs = each_from (λ (neighbour : List Float). (plane_of request neighbour).unseen) n xs

unfoldable pub planes_of_call : Request → List Float → List Plane
planes_of_call request neighbours = planes_from request (agent_count neighbours) neighbours

-- whether each neighbour is unseen
unfoldable pub unseen_of_call : Request → List Float → List Bool
unseen_of_call request neighbours = unseen_from request (agent_count neighbours) neighbours

-- the first that is
abbrev pub is_unseen : ℕ → Bool → Bool
is_unseen neighbour unseen = unseen

abbrev pub first_unseen : Request → List Float → Option ℕ
first_unseen request neighbours = first_bad is_unseen 0 (unseen_of_call request neighbours)

unfoldable pub finite_plane : Plane → Bool
finite_plane plane = finite_vec plane.point && finite_vec plane.normal

-- a plane is bad wherever it stands in the list
abbrev pub bad_plane : ℕ → Plane → Bool
bad_plane index plane = not (finite_plane plane)

-- ---- what is made and written of them

-- the first neighbour that is unseen, if one is, or the refusal of a plane
abbrev pub Made : Type 0
Made = Result (Option ℕ) Refusal

-- the first plane that is not finite, or else the first neighbour that is unseen
abbrev pub made_of : Option ℕ → Option ℕ → Made
made_of (Some neighbour) unseen = Err (PlaneNotFinite neighbour)
made_of None unseen = Ok unseen

unfoldable pub planes_made : Request → List Float → Made
planes_made request neighbours = made_of (first_bad bad_plane 0 (planes_of_call request neighbours)) (first_unseen request neighbours)

-- each plane at its place in scratch, the first at an index, up to the first that is not finite
unfoldable pub written_from : ℕ → List Plane → List Float → List Float
written_from index [] scratch = scratch
written_from index (plane ∷ planes) scratch = cond (finite_plane plane) (written_from (suc index) planes (with_plane scratch index plane)) scratch

abbrev pub planes_written : List Plane → List Float → List Float
planes_written planes scratch = written_from 0 planes scratch
