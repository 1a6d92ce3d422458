-- Of the request's numbers only five are asked for a range, and each of them was looked at.
use mathlib.Core.Path.{◌≡◌}
use mathlib.Core.Bool.{true, false}
use Rattle.vectors.specs.Number.{◌<ᶠ◌, ◌>ᶠ◌, zero}
use Rattle.refusals.specs.Conditions.{first_bad}
use Rattle.refusals.proofs.Conditions.{first_of, first-none}
use Rattle.requests.specs.declared.Request.{Request}
use Rattle.requests.specs.declared.Asked.TheVariants.{InRange}
use Rattle.requests.specs.Checks.{bad_number, outside, call_kind}
use Rattle.requests.specs.Request.{request_numbers}
use Rattle.requests.proofs.checks.own_in_range.Goals as goal
use Rattle.std.specs.Prelude.{None}

in-range : (request : Request) → (request.agent.radius <ᶠ zero ≡ false) × (request.agent.responsibility <ᶠ zero ≡ false)
    → request.max_speed <ᶠ zero ≡ false → request.time_step >ᶠ zero ≡ true → request.horizon >ᶠ zero ≡ true
    → first_bad (bad_number InRange) 0 (request_numbers request) ≡ None
unfolding request_numbers bad_number outside call_kind
in-range request own speed step horizon = simp (first_of (bad_number InRange), first-none (bad_number InRange), own.0, own.1, speed, step, horizon)

pub returns-then-request-2 : goal.returns-then-request-2
returns-then-request-2 c =
    λ all. in-range c.args.request (c.is_negative.ensures c.if-is_negative.false) c.if-request.false c.if-request-2.true all
