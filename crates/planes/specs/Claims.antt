-- What is proved of the planes, each statement under its name. The proofs are in `proofs/`.
use Rattle.std.specs.Prelude.{ℕ, ◌≡◌, Bool, false, Float}
use Rattle.vectors.specs.declared.Vec3.{Vec3}
use Rattle.vectors.specs.Vec3.{all_zero}
use Rattle.solver.specs.declared.Plane.{Plane}
use Rattle.requests.specs.declared.Agent.{Agent}
use Rattle.requests.specs.Checks.{bad_fallback}
use Rattle.planes.specs.Neighbour.{plane_for}

-- ---- neighbours that are unseen: document 02's [6]

-- With a fallback that the velocity call accepts, a neighbour is unseen exactly where the three numbers of its plane's normal are zeros.
abbrev pub ZeroNormal : Type 0
ZeroNormal =
    (agent neighbour : Agent) (horizon time_step : Float) (fallback : Vec3) → bad_fallback fallback ≡ false
    → (plane_for agent neighbour horizon time_step fallback).unseen ≡ all_zero (plane_for agent neighbour horizon time_step fallback).plane.normal

abbrev pub zero_normal : ℕ → Plane → Bool
zero_normal neighbour plane = all_zero plane.normal
