-- What stops a loop over lent planes early is its answer: no later constraint changes it.
use mathlib.Core.Path.{◌≡◌, refl}
use mathlib.Core.List.{List}
use Prim.Native.Nat.{ℕ}
use lib.Ieee.{Float}
use Rattle.std.specs.Prelude.{Option, None}
use Rattle.solver.specs.declared.Plane.{Plane}
use Rattle.solver.specs.declared.Line.{Line}
use Rattle.solver.specs.declared.Optimum.{Optimum}
use Rattle.solver.specs.declared.OnPlane.TheVariants as onPlane
use Rattle.solver.specs.declared.Failure.{Failure}
use Rattle.solver.specs.declared.Outcome.TheVariants as outcome
use Rattle.solver.specs.declared.along_line.Times.{Times}
use Rattle.solver.specs.AlongLine.{cut_by}
use Rattle.solver.specs.AlongPlane.{by_constraint}
use Rattle.solver.specs.ThreeD.{by_plane}
use Rattle.solver.proofs.Planes.{remaining, begin, turn, end, leave, planes-lent}

-- ---- a line that is shut

abbrev pub cut : Line → List Plane → Plane → Option Times → Option Times
cut line passed constraint times = cut_by line constraint times

pub line-stays : (line : Line) (n i : ℕ) (xs : List Float) → remaining (cut line) n i xs None ≡ None
unfolding cut_by
line-stays line n i xs = leave (cut line) n i xs None (λ passed constraint. refl)

-- ---- a plane that fails

module _ (plane : Plane) (radius : Float) (optimum : Optimum) (n i : ℕ) (xs : List Float) where
  pub infeasible-stays : remaining (by_constraint plane radius optimum) n i xs onPlane.Infeasible ≡ onPlane.Infeasible
  unfolding by_constraint
  infeasible-stays = leave (by_constraint plane radius optimum) n i xs onPlane.Infeasible (λ passed constraint. refl)

  pub clamp-stays : remaining (by_constraint plane radius optimum) n i xs onPlane.BadClamp ≡ onPlane.BadClamp
  unfolding by_constraint
  clamp-stays = leave (by_constraint plane radius optimum) n i xs onPlane.BadClamp (λ passed constraint. refl)

-- ---- and 3D

module _ (radius : Float) (optimum : Optimum) (n i : ℕ) (xs : List Float) where
  pub failure-stays : (failure : Failure) → remaining (by_plane radius optimum) n i xs (outcome.Infeasible failure) ≡ outcome.Infeasible failure
  unfolding by_plane
  failure-stays failure = leave (by_plane radius optimum) n i xs (outcome.Infeasible failure) (λ passed constraint. refl)

  pub bad-stays : (index : ℕ) → remaining (by_plane radius optimum) n i xs (outcome.BadClamp index) ≡ outcome.BadClamp index
  unfolding by_plane
  bad-stays index = leave (by_plane radius optimum) n i xs (outcome.BadClamp index) (λ passed constraint. refl)

pub ruleset in_turn_on_line = (begin, turn, end, line-stays)

pub ruleset in_turn_on_plane = (begin, turn, end, planes-lent, infeasible-stays, clamp-stays)

pub ruleset in_turn_in_sphere = (begin, turn, end, planes-lent, failure-stays, bad-stays)
