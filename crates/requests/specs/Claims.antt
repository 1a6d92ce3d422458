-- What is proved of a reply, under its name. The proof is in `proofs/`.
use Rattle.std.specs.Prelude.{◌≡◌}
use Rattle.vectors.specs.Vec3.{zero_vec}
use Rattle.requests.specs.Reply.{number, velocity_of, Reply}

-- A refused velocity is three +0s: the velocity of every reply whose number is not 0.
abbrev pub RefusedZeros : Type 0
RefusedZeros = (reply : Reply) → ¬ (number reply ≡ 0) → velocity_of reply ≡ zero_vec
