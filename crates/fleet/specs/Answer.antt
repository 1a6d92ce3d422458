-- What a table call answers: its own numbered answers of document 01, and what a plan passes on of the velocity call.
use Rattle.std.specs.Prelude.{ℕ}
use Rattle.vectors.specs.declared.Vec3.{Vec3}
use Rattle.vectors.specs.Vec3.{zero_vec}
use Rattle.refusals.specs.Refusal as refusal
use Rattle.requests.specs.Reply as reply
use Rattle.fleet.specs.declared.Answer.{Answer}
use Rattle.fleet.specs.declared.Answer.TheVariants.{Done, Plan, Refused}

abbrev pub number : Answer → ℕ
number Done = 0
number (Plan answered) = reply.number answered
number (Refused r) = refusal.number r

abbrev pub place_of : Answer → ℕ
place_of Done = 0
place_of (Plan answered) = reply.place_of answered
place_of (Refused r) = refusal.place_of r

abbrev pub velocity_of : Answer → Vec3
velocity_of Done = zero_vec
velocity_of (Plan answered) = reply.velocity_of answered
velocity_of (Refused r) = zero_vec
