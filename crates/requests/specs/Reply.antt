-- What a velocity call answers: document 01's number, place and velocity of each reply.
use Rattle.std.specs.Prelude.{ℕ, Bool, true, false, cond, List, eqb, get_or, Option, Some, None, Result, Ok, Err}
use Rattle.vectors.specs.declared.Vec3.{Vec3}
use Rattle.vectors.specs.Vec3.{zero_vec}
use Rattle.refusals.specs.declared.Refusal.{Refusal}
use Rattle.refusals.specs.declared.Refusal.TheVariants.{PlaneNotFinite}
use Rattle.refusals.specs.Refusal as refusal
use Rattle.requests.specs.declared.Course.{Course}

abbrev pub Reply : Type 0
Reply = Result Course Refusal

abbrev pub is_answered : Reply → Bool
is_answered (Ok course) = true
is_answered (Err r) = false

abbrev pub number : Reply → ℕ
number (Ok course) = 0
number (Err r) = refusal.number r

abbrev pub place_of : Reply → ℕ
place_of (Ok course) = 0
place_of (Err r) = refusal.place_of r

-- a refused velocity is three zeros
abbrev pub velocity_of : Reply → Vec3
velocity_of (Ok course) = course.velocity
velocity_of (Err r) = zero_vec

-- the plane from which the velocity is relaxed
abbrev pub relaxed_of : Reply → Option ℕ
relaxed_of (Ok course) = course.relaxed
relaxed_of (Err r) = None

-- the first neighbour that is unseen
abbrev pub unseen_of : Reply → Option ℕ
unseen_of (Ok course) = course.unseen
unseen_of (Err r) = None

-- ---- the same with neighbours by other names, which stand in a list in the neighbours' order

unfoldable pub name_of : List ℕ → ℕ → ℕ
name_of names neighbour = get_or names neighbour 0

-- an answer names one that is unseen
abbrev pub renamed_unseen : List ℕ → Option ℕ → Option ℕ
renamed_unseen names (Some neighbour) = Some (name_of names neighbour)
renamed_unseen names None = None

unfoldable pub renamed_course : List ℕ → Course → Course
renamed_course names course = record { velocity = course.velocity; relaxed = course.relaxed; unseen = renamed_unseen names course.unseen }

-- 6 names one
unfoldable pub renamed_refusal : List ℕ → Refusal → Refusal
renamed_refusal names r = cond (eqb (refusal.number r) 6) (PlaneNotFinite (name_of names (refusal.place_of r))) r

unfoldable pub renamed : List ℕ → Reply → Reply
renamed names (Ok course) = Ok (renamed_course names course)
renamed names (Err r) = Err (renamed_refusal names r)
