-- What is proved of the velocity call, each statement under its name. The proofs are in `proofs/`.
use Rattle.std.specs.Prelude.{ℕ, ◌*◌, ◌≤◌, ◌<◌, ◌≡◌, true, false, List, ◌↔◌, length, get_or, take, drop, replicate, Float, Some, None}
use Rattle.std.specs.Float.{nan}
use Rattle.std.specs.Float.Ieee.{eq}
use Rattle.vectors.specs.declared.Vec3.{Vec3}
use Rattle.vectors.specs.Number.{zero}
use Rattle.vectors.specs.Vec3.{all_zero, finite_vec, IsBinary32}
use Rattle.refusals.specs.Conditions.{First, some, Lowest}
use Rattle.solver.specs.declared.Plane.{Plane}
use Rattle.solver.specs.declared.Optimum.{Optimum}
use Rattle.solver.specs.declared.Optimum.TheVariants.{Point}
use Rattle.solver.specs.declared.OnPlane.TheVariants as onPlane
use Rattle.solver.specs.Lent.{numbers_of_planes}
use Rattle.solver.specs.ThreeD.{three_d}
use Rattle.solver.specs.Claims.{ComesTo, infeasible_at}
use Rattle.requests.specs.declared.Request.{Request}
use Rattle.requests.specs.declared.Asked.TheVariants.{Finite, InRange}
use Rattle.requests.specs.Lent.{agent_count}
use Rattle.requests.specs.Checks.{bad_number, call_numbers}
use Rattle.requests.specs.Reply.{is_answered, number, place_of, velocity_of, relaxed_of, unseen_of, Reply}
use Rattle.planes.specs.Planes.{planes_of_call, bad_plane}
use Rattle.planes.specs.Claims.{zero_normal}
use Rattle.avoidance.specs.Velocity.{velocity_call, scratch_after}
use Rattle.avoidance.specs.Conditions.{velocity_conditions, document_one_conditions, SameInputs}
use Rattle.avoidance.specs.Examples.{All, examples}

-- ---- which answer

-- For every n above 0 the velocity call answers n exactly when n's condition is the first that holds.
abbrev pub RefusedExactly : Type 0
RefusedExactly =
    (request : Request) (neighbours : List Float) (scratch_length n : ℕ) → 0 < n
    → (number (velocity_call request neighbours scratch_length) ≡ n) ↔ First n (velocity_conditions request neighbours scratch_length)

-- The velocity call answers 0 exactly when none of the conditions holds.
abbrev pub AnsweredExactly : Type 0
AnsweredExactly =
    (request : Request) (neighbours : List Float) (scratch_length : ℕ)
    → (number (velocity_call request neighbours scratch_length) ≡ 0) ↔ (some (velocity_conditions request neighbours scratch_length) ≡ false)

-- The calls answered with 1 or 17 are those for which document 01's 1 is the first that holds, and those answered with 7 or 18 those for which its 7 is.
abbrev pub SameInputsRefused : Type 0
SameInputsRefused =
    (request : Request) (neighbours : List Float) (scratch_length : ℕ)
    → SameInputs (number (velocity_call request neighbours scratch_length)) (document_one_conditions request neighbours scratch_length)

-- ---- places

-- the point that the 3D program seeks
abbrev pub sought : Request → Optimum
sought request = Point request.preferred.x request.preferred.y request.preferred.z

-- What the place is, by the answer's number. The call's numbers are the request's 17 and then the neighbours', 8 each.
pub record Placed (request : Request) (neighbours : List Float) (answer place : ℕ) : Type 0 where
  -- no place
  pub of-0 : answer ≡ 0 → place ≡ 0
  pub of-1 : answer ≡ 1 → place ≡ 0
  -- the scratch that is needed, 12 numbers for each neighbour
  pub of-2 : answer ≡ 2 → place ≡ 12 * agent_count neighbours
  -- the lowest bad number: of the call's numbers the one there is not finite, and none at a lower place is so
  pub of-3 : answer ≡ 3 → Lowest (bad_number Finite) 0 (call_numbers request neighbours) nan place
  -- the one there is out of its range, and none at a lower place is so
  pub of-4 : answer ≡ 4 → Lowest (bad_number InRange) 0 (call_numbers request neighbours) nan place
  -- the fallback's first number
  pub of-5 : answer ≡ 5 → place ≡ 14
  -- the lowest neighbour with a bad plane: that of the one there has a component that is not finite, and that of no lower one has
  pub of-6 : answer ≡ 6 → (d : Plane) → Lowest bad_plane 0 (planes_of_call request neighbours) d place
  -- no place
  pub of-7 : answer ≡ 7 → place ≡ 0
  -- how many neighbours there are
  pub of-17 : answer ≡ 17 → place ≡ agent_count neighbours
  -- the plane that 3D was solving on: the program comes to the plane there, with some value, and solving on it meets a bad clamp
  pub of-18 : answer ≡ 18 → (v : Vec3) × ComesTo (planes_of_call request neighbours) request.max_speed (sought request) place v onPlane.BadClamp

-- The place of every answer is document 01's, and of 17 and 18 document 02's.
abbrev pub PlacesByAnswer : Type 0
PlacesByAnswer =
    (request : Request) (neighbours : List Float) (scratch_length : ℕ)
    → Placed request neighbours (number (velocity_call request neighbours scratch_length)) (place_of (velocity_call request neighbours scratch_length))

-- ---- scratch

-- What stands in scratch after the call, by the answer's number, where it held `before`. There are n neighbours, whose planes these are.
pub record ScratchLeft (n : ℕ) (planes : List Plane) (answer : ℕ) (before after : List Float) : Type 0 where
  -- the planes in the first 6n numbers, in the neighbours' order, point before normal; and +0 in the next 6n
  pub of-0 : answer ≡ 0 → take (6 * n) after ≡ numbers_of_planes planes
  pub next-of-0 : answer ≡ 0 → take (6 * n) (drop (6 * n) after) ≡ replicate (6 * n) zero
  -- untouched
  pub of-1 : answer ≡ 1 → after ≡ before
  pub of-2 : answer ≡ 2 → after ≡ before
  pub of-3 : answer ≡ 3 → after ≡ before
  pub of-4 : answer ≡ 4 → after ≡ before
  pub of-5 : answer ≡ 5 → after ≡ before
  pub of-17 : answer ≡ 17 → after ≡ before
  -- +0 in the first 12n numbers
  pub of-6 : answer ≡ 6 → take (12 * n) after ≡ replicate (12 * n) zero
  pub of-7 : answer ≡ 7 → take (12 * n) after ≡ replicate (12 * n) zero
  pub of-18 : answer ≡ 18 → take (12 * n) after ≡ replicate (12 * n) zero
  -- whatever the answer, the numbers past 12n are untouched
  pub past : drop (12 * n) after ≡ drop (12 * n) before

-- Every call leaves in scratch what document 01 says: planes and +0s for 0, what it held for 1 to 5 and 17, +0s in the first 12n numbers for 6, 7 and 18. Past these no
-- number is ever touched.
abbrev pub ScratchByAnswer : Type 0
ScratchByAnswer =
    (request : Request) (neighbours scratch : List Float)
    → ScratchLeft (agent_count neighbours) (planes_of_call request neighbours) (number (velocity_call request neighbours (length scratch))) scratch (scratch_after request neighbours scratch)

-- What the promise of `velocity` says of its reply and of scratch after.
abbrev pub Meets : Request → List Float → List Float → Reply → List Float → Type 0
Meets request neighbours scratch reply after = (reply ≡ velocity_call request neighbours (length scratch)) × (after ≡ scratch_after request neighbours scratch)

-- What scratch held before alters no answer: two calls that meet the promise, with as many numbers of scratch, reply alike.
abbrev pub ScratchUnread : Type 0
ScratchUnread =
    (request : Request) (neighbours scratch scratch' after after' : List Float) (reply reply' : Reply) → length scratch ≡ length scratch'
    → Meets request neighbours scratch reply after → Meets request neighbours scratch' reply' after' → reply ≡ reply'

-- Two calls that meet the promise on the same inputs reply alike and leave the same in scratch.
abbrev pub SameCall : Type 0
SameCall =
    (request : Request) (neighbours scratch after after' : List Float) (reply reply' : Reply)
    → Meets request neighbours scratch reply after → Meets request neighbours scratch reply' after' → (reply ≡ reply') × (after ≡ after')

-- Whatever scratch has 12 numbers for each neighbour, or more, is enough: the reply is the same.
abbrev pub EnoughScratch : Type 0
EnoughScratch =
    (request : Request) (neighbours : List Float) (given more : ℕ) → 12 * agent_count neighbours ≤ given → 12 * agent_count neighbours ≤ more
    → velocity_call request neighbours given ≡ velocity_call request neighbours more

-- An answer given with some scratch is given with any scratch that is enough.
abbrev pub AnyScratch : Type 0
AnyScratch =
    (request : Request) (neighbours : List Float) (given enough : ℕ) → 12 * agent_count neighbours ≤ enough → is_answered (velocity_call request neighbours given) ≡ true
    → velocity_call request neighbours enough ≡ velocity_call request neighbours given

-- ---- what an answer is

-- The velocity of an answer is finite.
abbrev pub AnswerFinite : Type 0
AnswerFinite =
    (request : Request) (neighbours : List Float) (scratch_length : ℕ) → is_answered (velocity_call request neighbours scratch_length) ≡ true
    → finite_vec (velocity_of (velocity_call request neighbours scratch_length)) ≡ true

-- The velocity of every reply is three binary32 numbers, where the preferred one is.
abbrev pub AnswerIsBinary32 : Type 0
AnswerIsBinary32 =
    (request : Request) (neighbours : List Float) (scratch_length : ℕ) → IsBinary32 request.preferred
    → IsBinary32 (velocity_of (velocity_call request neighbours scratch_length))

-- A zero component of a velocity is +0, of every reply.
abbrev pub NoMinusZero : Type 0
NoMinusZero =
    (request : Request) (neighbours : List Float) (scratch_length : ℕ)
    → let velocity = velocity_of (velocity_call request neighbours scratch_length) in
    (eq velocity.x zero ≡ true → velocity.x ≡ zero)
    × (eq velocity.y zero ≡ true → velocity.y ≡ zero)
    × (eq velocity.z zero ≡ true → velocity.z ≡ zero)

-- An answer is relaxed from plane k exactly when the 3D program, on the neighbours' planes, within the maximum speed and with the preferred velocity sought, is
-- infeasible at k with some value.
abbrev pub RelaxedExactly : Type 0
RelaxedExactly =
    (request : Request) (neighbours : List Float) (scratch_length : ℕ) → is_answered (velocity_call request neighbours scratch_length) ≡ true → (k : ℕ)
    → (relaxed_of (velocity_call request neighbours scratch_length) ≡ Some k)
    ↔ ((v : Vec3) × (three_d (planes_of_call request neighbours) request.max_speed (sought request) ≡ infeasible_at k v))

-- ---- neighbours that are unseen: document 02's [6]. `ZeroNormal`, in the Claims.antt of planes, says which they are.

-- Whom a reply names, of neighbours with these planes.
pub record NamesUnseen (planes : List Plane) (reply : Reply) : Type 0 where
  -- an answer names a neighbour exactly where its plane has a zero normal and that of no lower one has
  pub named : is_answered reply ≡ true → (neighbour : ℕ) (d : Plane) → (unseen_of reply ≡ Some neighbour) ↔ Lowest zero_normal 0 planes d neighbour
  -- and none exactly where no plane has
  pub none : is_answered reply ≡ true → (d : Plane) → (unseen_of reply ≡ None) ↔ ((neighbour : ℕ) → neighbour < length planes → all_zero (get_or planes neighbour d).normal ≡ false)
  -- a refusal names none
  pub refused : is_answered reply ≡ false → unseen_of reply ≡ None

-- An answer names as unseen the lowest neighbour whose plane has a zero normal, and none exactly where there is none; a refusal names none.
abbrev pub UnseenLowest : Type 0
UnseenLowest = (request : Request) (neighbours : List Float) (scratch_length : ℕ) → NamesUnseen (planes_of_call request neighbours) (velocity_call request neighbours scratch_length)

-- ---- examples

-- Document 01's worked examples marked P, all of them: each of Examples.antt holds.
abbrev pub WorkedExamples : Type 0
WorkedExamples = All examples
