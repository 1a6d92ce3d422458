-- What the layers above need to know of a velocity call: of scratch it reads only whether it is enough.
use mathlib.Core.Path.{refl}
use Rattle.requests.specs.Checks.{checks}
use Rattle.requests.proofs.ReplyLaws.{answered-passed}
use Rattle.requests.proofs.checks.Passed.{passed-fits, checks-enough}
use Rattle.avoidance.specs.Velocity.{planned_reply, velocity_call}
use Rattle.avoidance.specs.Claims.{EnoughScratch, AnyScratch}

pub enough-scratch : EnoughScratch
unfolding velocity_call
enough-scratch request neighbours k more fits fits' = rw (checks-enough request neighbours k more fits fits') refl

pub any-scratch : AnyScratch
unfolding velocity_call
any-scratch request neighbours k enough fits answered =
    let passed = answered-passed (checks request neighbours k) (planned_reply request neighbours) answered in
    enough-scratch request neighbours enough k fits (passed-fits request neighbours k passed)
