-- The sum of all six times 0 is a zero exactly where the definition's tests pass.
use Rattle.planes.specs.Planes.{finite_plane}
use Rattle.vectors.proofs.FiniteByZero.{both-finite}
use Rattle.planes.proofs.writing.is_finite_plane.Goals as goal

pub returns : goal.returns
unfolding finite_plane
returns c =
    let plane = c.args.plane in
    both-finite plane.point plane.normal
