-- The exported velocity call: `velocity` of avoidance, with its request and its answer as numbers in lent memory.
use Rattle.std.specs.Prelude.{ℕ, Bool, ◌&&◌, cond, List, [], ◌∷◌, eqb, length, Float, Option, Some, None}
use Rattle.vectors.specs.declared.Vec3.{Vec3}
use Rattle.requests.specs.Request.{per_request}
use Rattle.planes.specs.Lent.{request_at}
use Rattle.requests.specs.Reply.{number, place_of, velocity_of, relaxed_of, unseen_of, Reply}
use Rattle.guineacrumb.specs.Unfit.{unfit}
use Rattle.avoidance.specs.Velocity.{velocity_call, scratch_after}

-- ---- lengths

-- a request is the 17 numbers of places 0 to 16, and a velocity 3
unfoldable pub fits : List Float → List Float → Bool
fits request velocity = eqb (length request) per_request && eqb (length velocity) 3

-- ---- numbers out

unfoldable pub components_of : Vec3 → List Float
components_of v = v.x ∷ v.y ∷ v.z ∷ []

-- where there is no plane, and no neighbour, to name
abbrev pub none : ℕ
none = 0xFFFF_FFFF_FFFF_FFFF

abbrev pub or_none : Option ℕ → ℕ
or_none (Some index) = index
or_none None = none

-- ---- the answer, and what is left in what was lent: as it was where the lengths do not fit

-- the reply to the lent numbers
unfoldable pub reply_to : List Float → List Float → List Float → Reply
reply_to request neighbours scratch = velocity_call (request_at request) neighbours (length scratch)

unfoldable pub answer : List Float → List Float → List Float → List Float → ℕ
answer request neighbours scratch velocity =
    cond (fits request velocity) (number (reply_to request neighbours scratch)) unfit

unfoldable pub scratch_left : List Float → List Float → List Float → List Float → List Float
scratch_left request neighbours scratch velocity =
    cond (fits request velocity) (scratch_after (request_at request) neighbours scratch) scratch

unfoldable pub velocity_left : List Float → List Float → List Float → List Float → List Float
velocity_left request neighbours scratch velocity =
    cond (fits request velocity) (components_of (velocity_of (reply_to request neighbours scratch))) velocity

unfoldable pub place_left : List Float → List Float → List Float → List Float → ℕ → ℕ
place_left request neighbours scratch velocity place =
    cond (fits request velocity) (place_of (reply_to request neighbours scratch)) place

unfoldable pub relaxed_left : List Float → List Float → List Float → List Float → ℕ → ℕ
relaxed_left request neighbours scratch velocity relaxed =
    cond (fits request velocity) (or_none (relaxed_of (reply_to request neighbours scratch))) relaxed

unfoldable pub unseen_left : List Float → List Float → List Float → List Float → ℕ → ℕ
unseen_left request neighbours scratch velocity unseen =
    cond (fits request velocity) (or_none (unseen_of (reply_to request neighbours scratch))) unseen
