-- What is proved of the programs, each statement under its name: why the 3D program reports what it reports, which is document 02's [7], and what the velocity
-- call needs to know of a solve. The proofs are in `proofs/`. Only `FailsExactly` speaks of finite numbers, as the document does: every claim holds of any
-- numbers.
use Rattle.std.specs.Prelude.{ℕ, suc, ◌≡◌, true, false, List, [], ◌∷◌, ◌++◌, ◌↔◌, take, Float}
use Rattle.std.proofs.Math.Option.{some}
use Rattle.std.proofs.Math.ListN.{get_elem?}
use Rattle.vectors.specs.declared.Vec3.{Vec3}
use Rattle.vectors.specs.Number.{◌>ᶠ◌, zero, finite}
use Rattle.vectors.specs.Vec3.{finite_vec, IsBinary32}
use Rattle.solver.specs.declared.Plane.{Plane}
use Rattle.solver.specs.declared.Optimum.{Optimum}
use Rattle.solver.specs.declared.Optimum.TheVariants.{Point, Direction}
use Rattle.solver.specs.declared.OnPlane.{OnPlane}
use Rattle.solver.specs.declared.OnPlane.TheVariants as onPlane
use Rattle.solver.specs.declared.Outcome.{Outcome}
use Rattle.solver.specs.declared.Outcome.TheVariants.{Feasible, Infeasible, BadClamp}
use Rattle.solver.specs.Plane.{signed_distance}
use Rattle.solver.specs.AlongPlane.{along_plane}
use Rattle.solver.specs.ThreeD.{three_d}
use Rattle.solver.specs.Solve.{solve}
use Rattle.solver.specs.Examples.{All, examples}

-- ---- the three reports

abbrev pub IsFeasible : Outcome → Type 0
IsFeasible outcome = (v : Vec3) × (outcome ≡ Feasible v)

-- infeasible at plane k, with the value that the planes before it left
abbrev pub infeasible_at : ℕ → Vec3 → Outcome
infeasible_at k v = Infeasible (record { index = k; value = v })

abbrev pub IsInfeasible : Outcome → Type 0
IsInfeasible outcome = (k : ℕ) × (v : Vec3) × (outcome ≡ infeasible_at k v)

-- ---- how the program gets there

-- the program comes to plane k with the value v, has to solve on that plane, and finds `answer` there
pub record ComesTo (planes : List Plane) (radius : Float) (optimum : Optimum) (k : ℕ) (v : Vec3) (answer : OnPlane) : Type 0 where
  -- plane k exists
  pub plane : Plane
  pub there : get_elem? planes k ≡ some plane
  -- the first k planes alone are feasible with v
  pub before : three_d (take k planes) radius optimum ≡ Feasible v
  -- the signed distance of v to plane k is not above 0; a NaN is not
  pub not-above : (signed_distance plane v >ᶠ zero) ≡ false
  -- solving on plane k with the first k planes gives the answer
  pub solved : along_plane plane radius (take k planes) optimum ≡ answer

-- infeasible at k with v is reported exactly when the program comes to plane k with v and solving on it fails
abbrev pub Explained : List Plane → Float → Optimum → Type 0
Explained planes radius optimum = (k : ℕ) (v : Vec3) → (three_d planes radius optimum ≡ infeasible_at k v) ↔ ComesTo planes radius optimum k v onPlane.Infeasible

-- ---- finite numbers

abbrev pub FinitePlanes : List Plane → Type 0
FinitePlanes [] = Unit {0}
FinitePlanes (plane ∷ planes) = (finite_vec plane.point ≡ true) × (finite_vec plane.normal ≡ true) × FinitePlanes planes

abbrev pub FiniteOptimum : Optimum → Type 0
FiniteOptimum (Point x y z) = finite_vec (record { x = x; y = y; z = z }) ≡ true
FiniteOptimum (Direction x y z) = finite_vec (record { x = x; y = y; z = z }) ≡ true

-- ---- why

-- Document 02's sentence: for finite planes, radius and optimum, infeasible at k with v is reported exactly when plane k exists, the first k planes alone are
-- feasible with v, the signed distance of v to plane k is not above 0, and solving on plane k with the first k planes fails.
abbrev pub FailsExactly : Type 0
FailsExactly =
    (planes : List Plane) (radius : Float) (optimum : Optimum) → FinitePlanes planes → finite radius ≡ true → FiniteOptimum optimum
    → Explained planes radius optimum

-- The same of any numbers, NaN and infinity too.
abbrev pub FailsExactlyAny : Type 0
FailsExactlyAny = (planes : List Plane) (radius : Float) (optimum : Optimum) → Explained planes radius optimum

-- Planes added after a list that is infeasible at k with v leave that report as it is.
abbrev pub LaterUnread : Type 0
LaterUnread =
    (planes later : List Plane) (radius : Float) (optimum : Optimum) (k : ℕ) (v : Vec3)
    → three_d planes radius optimum ≡ infeasible_at k v → three_d (planes ++ later) radius optimum ≡ infeasible_at k v

-- As the desk reads it: planes 0 to k decide alone. Whatever stands after plane k, a list with the same planes 0 to k has the same report.
abbrev pub LaterReplaced : Type 0
LaterReplaced =
    (planes others : List Plane) (radius : Float) (optimum : Optimum) (k : ℕ) (v : Vec3) → take (suc k) others ≡ take (suc k) planes
    → three_d planes radius optimum ≡ infeasible_at k v → three_d others radius optimum ≡ infeasible_at k v

-- A feasible list has only feasible beginnings: its first n planes are feasible, for every n.
abbrev pub FeasibleBeginnings : Type 0
FeasibleBeginnings = (planes : List Plane) (radius : Float) (optimum : Optimum) → IsFeasible (three_d planes radius optimum) → (n : ℕ) → IsFeasible (three_d (take n planes) radius optimum)

-- A bad clamp, refusal 18, is neither feasible nor infeasible.
abbrev pub ClampApart : Type 0
ClampApart =
    (planes : List Plane) (radius : Float) (optimum : Optimum) (k : ℕ) → three_d planes radius optimum ≡ BadClamp k
    → (¬ IsFeasible (three_d planes radius optimum)) × (¬ IsInfeasible (three_d planes radius optimum))

-- A bad clamp is reported at k exactly when the program comes to plane k, with some value, and solving on that plane meets a pair of bounds of which the lower is
-- not at most the upper.
abbrev pub ClampsExactly : Type 0
ClampsExactly =
    (planes : List Plane) (radius : Float) (optimum : Optimum) (k : ℕ)
    → (three_d planes radius optimum ≡ BadClamp k) ↔ ((v : Vec3) × ComesTo planes radius optimum k v onPlane.BadClamp)

-- No list is infeasible at two indices, nor with two values.
abbrev pub OnlyIndex : Type 0
OnlyIndex =
    (planes : List Plane) (radius : Float) (optimum : Optimum) (j k : ℕ) (v w : Vec3)
    → three_d planes radius optimum ≡ infeasible_at j v → three_d planes radius optimum ≡ infeasible_at k w → (j ≡ k) × (v ≡ w)

-- No two planes explain why a list is infeasible, nor do two values.
abbrev pub OnlyPlane : Type 0
OnlyPlane =
    (planes : List Plane) (radius : Float) (optimum : Optimum) (j k : ℕ) (v w : Vec3)
    → ComesTo planes radius optimum j v onPlane.Infeasible → ComesTo planes radius optimum k w onPlane.Infeasible → (j ≡ k) × (v ≡ w)

-- The lists of planes of Examples.antt do what is said there.
abbrev pub FailingExamples : Type 0
FailingExamples = All examples

-- ---- a solve

-- With a direction as the optimum the 3D program never reports a bad clamp; so the inner programs of 4D never do.
abbrev pub ThreeDNeverBad : Type 0
ThreeDNeverBad = (planes : List Plane) (radius x y z : Float) (k : ℕ) → ¬ (three_d planes radius (Direction x y z) ≡ BadClamp k)

-- The value of a solve is three binary32 numbers, where the preferred velocity is.
abbrev pub SolveIsBinary32 : Type 0
SolveIsBinary32 = (planes : List Plane) (radius : Float) (preferred : Vec3) → IsBinary32 preferred → IsBinary32 (solve planes radius preferred).value
