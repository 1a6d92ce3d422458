-- Lanes that a loop fills one by one.
use mathlib.Core.Path.{◌≡◌, sym}
use mathlib.Core.Bool.{true}
use mathlib.Core.List.{List}
use mathlib.Core.Logic.{⊎_elim}
use Prim.Native.Nat.{ℕ, ◌+◌, ◌≤◌, ◌<◌}
use native.Mathlib.Nat.{eq-or-lt_of_le}
use native.Mathlib.Omega.{arith}
use lib.Ieee.{Float, eq}
use lib.ListN.{length, get_or, set}
use lib.Seq.{get_or-set_same, get_or-set_other}
use Rattle.vectors.specs.Number.{zero}
use Rattle.vectors.specs.Root.{root}
use Rattle.vectors.proofs.root.NotAbove.{zero-stays}
use Rattle.planes.specs.declared.NeighbourPlane.{NeighbourPlane}
use Rattle.planes.specs.declared.neighbour.Relation.{Relation}
use Rattle.planes.specs.declared.stages.Approach.{Approach}
use Rattle.planes.specs.declared.stages.Direction.{Direction}
use Rattle.planes.specs.declared.groups.Relations.{Relations}
use Rattle.planes.specs.declared.groups.Approaches.{Approaches}
use Rattle.planes.specs.declared.groups.Directions.{Directions}
use Rattle.planes.specs.declared.groups.Planes.{Planes}
use Rattle.planes.specs.parts.Groups.{relation_in, approach_in, direction_in, plane_in, EachBelow}

-- what holds of the lanes before, and of a lane, holds of one lane more
pub one_more : (P : ℕ → Type 0) (lane : ℕ) → EachBelow lane P → P lane → EachBelow (lane + 1) P
one_more P lane before here i h =
    let upto : i ≤ lane = omega arith in
    ⊎_elim (λ is. rw is here) (λ less. before i less) (eq-or-lt_of_le upto)

abbrev pub Eight : {A : Type 0} → List A → Type 0
Eight xs = length xs ≡ 8

module _ {A : Type 0} (xs : List A) (lane : ℕ) (x d : A) where
  -- a lane that is set, and any other
  pub at-lane : Eight xs → lane < 8 → get_or (set xs lane x) lane d ≡ x
  at-lane eight below = get_or-set_same xs lane x d (omega (arith, eight, below))

  pub off-lane : (i : ℕ) → i < lane → get_or (set xs lane x) i d ≡ get_or xs i d
  off-lane i less = get_or-set_other xs lane i x d (λ is. omega (arith, is, less))

-- a number that is a zero is its own root
pub zero_root : (x : Float) → eq x zero ≡ true → root x ≡ x
zero_root x is = sym (zero-stays x is)

-- ---- eight relations

abbrev pub Eight-relation : Relations → Type 0
Eight-relation lanes = Eight lanes.position_x × Eight lanes.position_y × Eight lanes.position_z × Eight lanes.velocity_x × Eight lanes.velocity_y × Eight lanes.velocity_z × Eight lanes.radius_sum × Eight lanes.responsibility

-- one of them set
abbrev pub set-relation : Relations → ℕ → Relation → Float → Relations
set-relation lanes lane new other = record {
  position_x = set lanes.position_x lane new.position.x;
  position_y = set lanes.position_y lane new.position.y;
  position_z = set lanes.position_z lane new.position.z;
  velocity_x = set lanes.velocity_x lane new.velocity.x;
  velocity_y = set lanes.velocity_y lane new.velocity.y;
  velocity_z = set lanes.velocity_z lane new.velocity.z;
  radius_sum = set lanes.radius_sum lane new.radius_sum;
  responsibility = set lanes.responsibility lane other;
}

module _ (lanes : Relations) (lane : ℕ) (new : Relation) (other : Float) where
  pub relation-here : Eight-relation lanes → lane < 8 → relation_in (set-relation lanes lane new other) lane ≡ new
  relation-here eight below = let (e0, e1, e2, e3, e4, e5, e6, e7) = eight in simp at-lane

  pub relation-before : (i : ℕ) → i < lane → relation_in (set-relation lanes lane new other) i ≡ relation_in lanes i
  relation-before i less = simp off-lane

-- ---- eight approaches

abbrev pub Eight-approach : Approaches → Type 0
Eight-approach lanes = Eight lanes.center_x × Eight lanes.center_y × Eight lanes.center_z × Eight lanes.radius × Eight lanes.part × Eight lanes.is_free × Eight lanes.is_cone × Eight lanes.number

-- one of them set
abbrev pub set-approach : Approaches → ℕ → Approach → Approaches
set-approach lanes lane new = record {
  center_x = set lanes.center_x lane new.center.x;
  center_y = set lanes.center_y lane new.center.y;
  center_z = set lanes.center_z lane new.center.z;
  radius = set lanes.radius lane new.radius;
  part = set lanes.part lane new.part;
  is_free = set lanes.is_free lane new.is_free;
  is_cone = set lanes.is_cone lane new.is_cone;
  number = set lanes.number lane new.number;
}

module _ (lanes : Approaches) (lane : ℕ) (new : Approach) where
  pub approach-here : Eight-approach lanes → lane < 8 → approach_in (set-approach lanes lane new) lane ≡ new
  approach-here eight below = let (e0, e1, e2, e3, e4, e5, e6, e7) = eight in simp at-lane

  pub approach-before : (i : ℕ) → i < lane → approach_in (set-approach lanes lane new) i ≡ approach_in lanes i
  approach-before i less = simp off-lane

-- ---- eight directions

abbrev pub Eight-direction : Directions → Type 0
Eight-direction lanes = Eight lanes.x × Eight lanes.y × Eight lanes.z × Eight lanes.square

-- one of them set
abbrev pub set-direction : Directions → ℕ → Direction → Directions
set-direction lanes lane new = record {
  x = set lanes.x lane new.vector.x;
  y = set lanes.y lane new.vector.y;
  z = set lanes.z lane new.vector.z;
  square = set lanes.square lane new.square;
}

module _ (lanes : Directions) (lane : ℕ) (new : Direction) where
  pub direction-here : Eight-direction lanes → lane < 8 → direction_in (set-direction lanes lane new) lane ≡ new
  direction-here eight below = let (e0, e1, e2, e3) = eight in simp at-lane

  pub direction-before : (i : ℕ) → i < lane → direction_in (set-direction lanes lane new) i ≡ direction_in lanes i
  direction-before i less = simp off-lane

-- ---- eight planes

abbrev pub Eight-plane : Planes → Type 0
Eight-plane lanes = Eight lanes.point_x × Eight lanes.point_y × Eight lanes.point_z × Eight lanes.normal_x × Eight lanes.normal_y × Eight lanes.normal_z × Eight lanes.unseen

-- one of them set
abbrev pub set-plane : Planes → ℕ → NeighbourPlane → Planes
set-plane lanes lane new = record {
  point_x = set lanes.point_x lane new.plane.point.x;
  point_y = set lanes.point_y lane new.plane.point.y;
  point_z = set lanes.point_z lane new.plane.point.z;
  normal_x = set lanes.normal_x lane new.plane.normal.x;
  normal_y = set lanes.normal_y lane new.plane.normal.y;
  normal_z = set lanes.normal_z lane new.plane.normal.z;
  unseen = set lanes.unseen lane new.unseen;
}

module _ (lanes : Planes) (lane : ℕ) (new : NeighbourPlane) where
  pub plane-here : Eight-plane lanes → lane < 8 → plane_in (set-plane lanes lane new) lane ≡ new
  plane-here eight below = let (e0, e1, e2, e3, e4, e5, e6) = eight in simp at-lane

  pub plane-before : (i : ℕ) → i < lane → plane_in (set-plane lanes lane new) i ≡ plane_in lanes i
  plane-before i less = simp off-lane
