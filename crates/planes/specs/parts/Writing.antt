-- What the functions that write planes promise each other of the scratch.
use Rattle.std.specs.Prelude.{ℕ, ◌≡◌, Bool, cond, List, length, Float, Option, Some, None, Ok, Err}
use Rattle.refusals.specs.declared.Refusal.TheVariants.{PlaneNotFinite}
use Rattle.refusals.specs.Conditions.{first_bad}
use Rattle.solver.specs.Lent.{with_plane}
use Rattle.requests.specs.declared.Request.{Request}
use Rattle.planes.specs.declared.NeighbourPlane.{NeighbourPlane}
use Rattle.planes.specs.Planes.{planes_from, unseen_from, finite_plane, bad_plane, is_unseen, Made, made_of, planes_written}

-- what was found before, or else the neighbour at an index, where it is unseen
abbrev pub noted : Option ℕ → Bool → ℕ → Option ℕ
noted (Some earlier) unseen index = Some earlier
noted None unseen index = cond unseen (Some index) None

-- the planes are made and written as far as the neighbour at an index
pub record WrittenTo (request : Request) (neighbours : List Float) (index : ℕ) (before after : List Float) (r : Made) : Type 0 where
  pub made : r ≡ made_of (first_bad bad_plane 0 (planes_from request index neighbours)) (first_bad is_unseen 0 (unseen_from request index neighbours))
  pub left : after ≡ planes_written (planes_from request index neighbours) before

-- One plane that was made is written, where it is finite.
pub record MadeWritten (index : ℕ) (made : NeighbourPlane) (unseen : Option ℕ) (before after : List Float) (r : Made) : Type 0 where
  pub result : r ≡ cond (finite_plane made.plane) (Ok (noted unseen made.unseen index)) (Err (PlaneNotFinite index))
  pub left : after ≡ cond (finite_plane made.plane) (with_plane before index made.plane) before

-- Whatever scratch was at first: planes that are written as far as `start` are written as far as `end`.
pub record Passed (request : Request) (neighbours : List Float) (start end : ℕ) (unseen : Option ℕ) (before after : List Float) (r : Made) : Type 0 where
  pub same_length : length after ≡ length before
  pub further : (first : List Float) → WrittenTo request neighbours start first before (Ok unseen) → WrittenTo request neighbours end first after r
