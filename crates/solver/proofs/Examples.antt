-- The lists of planes of specs/Examples.antt fail as is said there, proved by running the definitions.
use mathlib.Core.Path.{refl}
use lib.Ieee.{add, sub, mul, div, neg, lt, le, eq, is_nan, of_bits}
use Rattle.vectors.specs.Number.{larger, smaller, clamped}
use Rattle.vectors.specs.Vec3.{◌+ᵥ◌, ◌-ᵥ◌, ◌*ᵥ◌, dot, cross, length_squared, length_recip, normalize}
use Rattle.vectors.specs.Root.{root}
use Rattle.solver.specs.Plane.{signed_distance, in_turn}
use Rattle.solver.specs.AlongLine.{along_line, best_on, at_clamped, point_on, cut_all, cut_by, open_or}
use Rattle.solver.specs.AlongPlane.{along_plane, start_on, start_in_circle, on_circle, line_on, from_line, by_line, by_constraint}
use Rattle.solver.specs.ThreeD.{three_d, start_in, from_plane, by_plane}
use Rattle.solver.specs.Claims.{FailingExamples}

pub failing-examples : FailingExamples
unfolding three_d start_in from_plane by_plane in_turn along_plane start_on start_in_circle on_circle line_on from_line by_line by_constraint along_line best_on at_clamped point_on cut_all cut_by open_or signed_distance ◌+ᵥ◌ ◌-ᵥ◌ ◌*ᵥ◌ dot cross length_squared length_recip normalize root larger smaller clamped add sub mul div neg lt le eq is_nan of_bits
failing-examples = ((refl, refl, refl, refl), ((refl, refl, refl, refl), (refl, (refl, ((refl, refl, refl, refl), ((refl, refl, refl, refl), tt))))))
