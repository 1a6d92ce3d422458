-- With a direction as the optimum no clamp is asked for, so no program that seeks one ends in a bad clamp: the inner programs of 4D never do.
use mathlib.Core.Path.{subst}
use mathlib.Core.List.{List, []}
use Prim.Native.Nat.{ℕ}
use Rattle.std.specs.Prelude.{Option, Some, None}
use lib.ListN.{length}
use lib.Ieee.{Float, neg}
use Rattle.vectors.specs.declared.Vec3.{Vec3}
use Rattle.vectors.specs.Number.{◌⊕◌, ◌⊖◌, ◌⊗◌, ◌<ᶠ◌, ◌≤ᶠ◌, ◌>ᶠ◌, ◌≥ᶠ◌, zero, rvo_epsilon}
use Rattle.vectors.specs.Vec3.{dot, cross}
use Rattle.vectors.specs.Root.{root}
use Rattle.solver.specs.declared.Plane.{Plane}
use Rattle.solver.specs.declared.Line.{Line}
use Rattle.solver.specs.declared.Optimum.TheVariants.{Direction}
use Rattle.solver.specs.declared.OnLine.{OnLine}
use Rattle.solver.specs.declared.OnLine.TheVariants as onLine
use Rattle.solver.specs.declared.OnPlane.{OnPlane}
use Rattle.solver.specs.declared.OnPlane.TheVariants as onPlane
use Rattle.solver.specs.declared.along_line.Times.{Times}
use Rattle.solver.specs.declared.Outcome.{Outcome}
use Rattle.solver.specs.declared.Outcome.TheVariants as outcome
use Rattle.solver.specs.Plane.{signed_distance}
use Rattle.solver.specs.AlongLine.{along_line, best_on, cut_all}
use Rattle.solver.specs.AlongPlane.{along_plane, start_on, line_on, from_line, by_line, by_constraint}
use Rattle.solver.specs.ThreeD.{three_d, start_in, by_plane, from_plane}
use Rattle.solver.specs.Claims.{ThreeDNeverBad}
use Rattle.solver.proofs.InTurn.{either, kept-in-turn}

abbrev sound_line : OnLine → Type 0
sound_line (onLine.Value v) = Unit {0}
sound_line onLine.Infeasible = Unit {0}
sound_line onLine.BadClamp = ⊥

abbrev sound_plane : OnPlane → Type 0
sound_plane (onPlane.Value v) = Unit {0}
sound_plane onPlane.Infeasible = Unit {0}
sound_plane onPlane.BadClamp = ⊥

abbrev sound_outcome : Outcome → Type 0
sound_outcome (outcome.Feasible v) = Unit {0}
sound_outcome (outcome.Infeasible f) = Unit {0}
sound_outcome (outcome.BadClamp i) = ⊥

module _ (radius x y z : Float) where
  best-sound : (line : Line) (times : Option Times) → sound_line (best_on line (Direction x y z) times)
  unfolding best_on
  best-sound line None = tt
  best-sound line (Some times) = tt

  line-sound : (line : Line) (constraints : List Plane) → sound_line (along_line line radius constraints (Direction x y z))
  unfolding along_line
  line-sound line constraints =
      let line_dot = dot line.point line.direction in
      let discriminant = line_dot ⊗ line_dot ⊕ radius ⊗ radius ⊖ dot line.point line.point in
      let whole : Times = record { left = neg line_dot ⊖ root discriminant; right = neg line_dot ⊕ root discriminant } in
      either sound_line (discriminant <ᶠ zero) tt (best-sound line (cut_all line constraints (Some whole)))

  from-line-sound : (a : OnLine) → sound_line a → sound_plane (from_line a)
  unfolding from_line
  from-line-sound (onLine.Value v) p = tt
  from-line-sound onLine.Infeasible p = tt
  from-line-sound onLine.BadClamp p = absurd p

  step-sound : (plane : Plane) (passed : List Plane) (constraint : Plane) (a : OnPlane) → sound_plane a → sound_plane (by_constraint plane radius (Direction x y z) passed constraint a)
  unfolding by_constraint by_line
  step-sound plane passed constraint (onPlane.Value best) p =
      let across = cross constraint.normal plane.normal in
      let line = line_on plane constraint across in
      let solved = along_line line radius passed (Direction x y z) in
      either sound_plane (signed_distance constraint best ≥ᶠ zero) tt
      (either sound_plane (dot across across ≤ᶠ rvo_epsilon) tt (from-line-sound solved (line-sound line passed)))
  step-sound plane passed constraint onPlane.Infeasible p = tt
  step-sound plane passed constraint onPlane.BadClamp p = absurd p

  plane-sound : (plane : Plane) (constraints : List Plane) → sound_plane (along_plane plane radius constraints (Direction x y z))
  unfolding along_plane
  plane-sound plane constraints =
      let distance = dot plane.point plane.normal in
      let start = onPlane.Value (start_on plane distance (radius ⊗ radius) (Direction x y z)) in
      either sound_plane (distance ⊗ distance >ᶠ radius ⊗ radius) tt
      (kept-in-turn (by_constraint plane radius (Direction x y z)) sound_plane (step-sound plane) [] constraints start tt)

  from-plane-sound : (index : ℕ) (best : Vec3) (a : OnPlane) → sound_plane a → sound_outcome (from_plane index best a)
  unfolding from_plane
  from-plane-sound index best (onPlane.Value v) p = tt
  from-plane-sound index best onPlane.Infeasible p = tt
  from-plane-sound index best onPlane.BadClamp p = absurd p

  outer-sound : (passed : List Plane) (constraint : Plane) (o : Outcome) → sound_outcome o → sound_outcome (by_plane radius (Direction x y z) passed constraint o)
  unfolding by_plane
  outer-sound passed constraint (outcome.Feasible best) p =
      let solved = along_plane constraint radius passed (Direction x y z) in
      either sound_outcome (signed_distance constraint best >ᶠ zero) tt (from-plane-sound (length passed) best solved (plane-sound constraint passed))
  outer-sound passed constraint (outcome.Infeasible f) p = tt
  outer-sound passed constraint (outcome.BadClamp i) p = absurd p

  three-d-sound : (constraints : List Plane) → sound_outcome (three_d constraints radius (Direction x y z))
  unfolding three_d
  three-d-sound constraints = kept-in-turn (by_plane radius (Direction x y z)) sound_outcome outer-sound [] constraints (outcome.Feasible (start_in radius (Direction x y z))) tt

pub three-d-never-bad : ThreeDNeverBad
three-d-never-bad planes radius x y z k e = subst (λ (o : Outcome). sound_outcome o) e (three-d-sound radius x y z planes)
