-- Document 01's worked examples marked P, in its order, each input beside what the document says comes of it. `WorkedExamples` in Claims.antt says that they hold.
use Rattle.std.specs.Prelude.{ℕ, ◌≡◌, List, [], ◌∷◌, Float, Some, None, Ok}
use Rattle.vectors.specs.declared.Vec3.{Vec3}
use Rattle.vectors.specs.Number.{of_word, to_word, zero, one}
use Rattle.vectors.specs.Root.{root}
use Rattle.solver.specs.declared.Plane.{Plane}
use Rattle.solver.specs.declared.Optimum.TheVariants.{Point}
use Rattle.solver.specs.declared.Failure.{Failure}
use Rattle.solver.specs.declared.Outcome.TheVariants.{Infeasible}
use Rattle.solver.specs.Lent.{scratch_for}
use Rattle.solver.specs.ThreeD.{three_d}
use Rattle.solver.specs.FourD.{four_d, half}
use Rattle.solver.specs.Examples.{minus_one, one_and_half, two, ten}
use Rattle.requests.specs.Reply.{Reply}
use Rattle.requests.specs.declared.Agent.{Agent}
use Rattle.requests.specs.declared.Request.{Request}
use Rattle.requests.specs.Lent.{agent_count}
use Rattle.planes.specs.Planes.{planes_of_call}
use Rattle.avoidance.specs.Velocity.{velocity_call}

-- ---- what an example says

pub data Example : Type 0 where
  -- a number and its root, by bits
  root_bits : ℕ → ℕ → Example
  -- a request, the neighbours, and their planes
  planes : Request → List Float → List Plane → Example
  -- a request, the neighbours, and what the velocity call replies
  reply : Request → List Float → Reply → Example
  -- planes, the radius, the preferred value, and where and with what 3D fails
  fails : List Plane → Float → Vec3 → Failure → Example
  -- planes, the radius, where and with what 3D failed, and the value that 4D gives
  relaxes : List Plane → Float → Failure → Vec3 → Example

abbrev pub Holds : Example → Type 0
Holds (root_bits argument this) = to_word (root (of_word argument)) ≡ this
Holds (planes request neighbours these) = planes_of_call request neighbours ≡ these
Holds (reply request neighbours this) = velocity_call request neighbours (scratch_for (agent_count neighbours)) ≡ this
Holds (fails constraints radius preferred this) = three_d constraints radius (Point preferred.x preferred.y preferred.z) ≡ Infeasible this
Holds (relaxes constraints radius failure this) = four_d constraints radius failure ≡ this

abbrev pub All : List Example → Type 0
All [] = Unit {0}
All (e ∷ es) = Holds e × All es

-- ---- numbers and vectors

abbrev pub four : Float
four = of_word 0x4080_0000

abbrev pub five : Float
five = of_word 0x40A0_0000

-- 2^-80
abbrev pub tiny : Float
tiny = of_word 0x1780_0000

-- (x, 0, 0) and (0, 0, z)
abbrev pub along : Float → Vec3
along x = record { x = x; y = zero; z = zero }

abbrev pub up : Float → Vec3
up z = record { x = zero; y = zero; z = z }

-- ---- planes, by point and normal

abbrev pub plane : Vec3 → Vec3 → Plane
plane point normal = record { point = point; normal = normal }

abbrev pub opposed : List Plane
opposed = plane (along one) (along one) ∷ plane (along minus_one) (along minus_one) ∷ []

abbrev pub failed_at : ℕ → Vec3 → Failure
failed_at index value = record { index = index; value = value }

-- ---- replies

-- free, and relaxed from a plane, with every neighbour seen; free, with a neighbour that is unseen
abbrev pub free : Vec3 → Reply
free v = Ok (record { velocity = v; relaxed = None; unseen = None })

abbrev pub relaxed_from : ℕ → Vec3 → Reply
relaxed_from plane v = Ok (record { velocity = v; relaxed = Some plane; unseen = None })

abbrev pub free_but : ℕ → Vec3 → Reply
free_but neighbour v = Ok (record { velocity = v; relaxed = None; unseen = Some neighbour })

-- ---- requests and neighbours

-- an agent at 0, of the responsibility 1
abbrev pub agent : Vec3 → Float → Agent
agent velocity radius = record { position = along zero; velocity = velocity; radius = radius; responsibility = one }

-- still, of the radius 1, with the step 0.5, the horizon 2 and the fallback (0, 0, 1): the preferred x and the maximum speed are to be said
abbrev pub still : Float → Float → Request
still preferred speed = record { agent = agent (along zero) one; preferred = along preferred; max_speed = speed; time_step = half; horizon = two; fallback = up one }

-- of the radius 2, at the velocity (10, 0, 0), with the horizon 1, the preferred velocity (10, 0, 0) and the maximum speed 10
abbrev pub head_on : Request
head_on = record { agent = agent (along ten) two; preferred = along ten; max_speed = ten; time_step = half; horizon = one; fallback = up one }

-- one neighbour at (x, 0, 0), still, of the radius 1 and the responsibility 1
abbrev pub neighbour : Float → List Float
neighbour x = x ∷ zero ∷ zero ∷ zero ∷ zero ∷ zero ∷ one ∷ one ∷ []

-- ---- the examples

abbrev pub examples : List Example
examples =
    -- roots by bits
    root_bits 0x4000_0000 0x3FB5_04F3
    ∷ root_bits 0x0000_0001 0x1A35_04F3
    ∷ root_bits 0x7F7F_FFFF 0x5F7F_FFFF
    ∷ root_bits 0x8000_0000 0x8000_0000
    -- free branch
    ∷ planes (still half two) (neighbour four) (plane (along one) (along minus_one) ∷ [])
    ∷ reply (still half two) (neighbour four) (free (along half))
    ∷ reply (still one two) (neighbour four) (free (along one))
    ∷ reply (still one_and_half two) (neighbour four) (free (along one))
    ∷ reply (still four two) (neighbour four) (free (along one))
    -- touching
    ∷ planes (still zero one) (neighbour two) (plane (along zero) (along minus_one) ∷ [])
    -- coincident
    ∷ planes (still zero one) (neighbour zero) (plane (up two) (up one) ∷ [])
    ∷ reply (still zero one) (neighbour zero) (relaxed_from 0 (up one))
    -- two opposed planes
    ∷ fails opposed two (along zero) (failed_at 1 (along one))
    ∷ relaxes opposed two (failed_at 1 (along one)) (along zero)
    -- head-on past the ring
    ∷ planes head_on (neighbour five) (plane (along ten) (along zero) ∷ [])
    ∷ reply head_on (neighbour five) (free_but 0 (along ten))
    -- no neighbours, and a square that underflows
    ∷ reply (still tiny zero) [] (free (along tiny))
    ∷ []
