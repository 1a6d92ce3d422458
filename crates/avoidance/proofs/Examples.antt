-- Document 01's worked examples marked P hold, proved by running the definitions.
use mathlib.Core.Path.{refl}
use lib.Ieee.{add, sub, mul, div, neg, lt, le, eq, is_nan, of_bits, to_bits}
use Rattle.vectors.specs.Number.{larger, smaller, clamped, finite, plus_zero}
use Rattle.vectors.specs.Vec3.{zero_vec, finite_vec, plus_zeros, ◌+ᵥ◌, ◌-ᵥ◌, ◌*ᵥ◌, ◌/ᵥ◌, dot, cross, length_squared, length_recip, normalize, normalize_or_zero}
use Rattle.vectors.specs.Root.{root}
use Rattle.refusals.specs.Conditions.{first_holding, marked}
use Rattle.solver.specs.Plane.{signed_distance, in_turn}
use Rattle.solver.specs.AlongLine.{along_line, best_on, at_clamped, point_on, cut_all, cut_by, open_or}
use Rattle.solver.specs.AlongPlane.{along_plane, start_on, start_in_circle, on_circle, line_on, from_line, by_line, by_constraint}
use Rattle.solver.specs.ThreeD.{three_d, start_in, from_plane, by_plane}
use Rattle.solver.specs.FourD.{four_d, relax_by, relaxed_to, turned_all, kept, turn_by, turned_plane}
use Rattle.solver.specs.Solve.{solve, value_of}
use Rattle.planes.specs.Lent.{vector_at, agent_at}
use Rattle.requests.specs.Request.{request_numbers}
use Rattle.requests.specs.Checks.{checks, bad_fallback, first_of, bad_number, outside, call_kind}
use Rattle.planes.specs.Neighbour.{plane_for, relation_of, projected, projected_free, projected_collision, collision_normal, on_sphere, on_cone, cone_time, share}
use Rattle.planes.specs.Planes.{planes_of_call, unseen_of_call, each_from, plane_of, finite_plane}
use Rattle.avoidance.specs.Velocity.{answered_with, outcome_reply, reply_of, planes_verdict, planned_reply, velocity_call}
use Rattle.avoidance.specs.Claims.{WorkedExamples}

pub worked-examples : WorkedExamples
unfolding three_d start_in from_plane by_plane in_turn along_plane start_on start_in_circle on_circle line_on from_line by_line by_constraint along_line best_on at_clamped point_on cut_all cut_by open_or signed_distance four_d relax_by relaxed_to turned_all kept turn_by turned_plane ◌+ᵥ◌ ◌-ᵥ◌ ◌*ᵥ◌ dot cross length_squared normalize root larger smaller clamped add sub mul div neg lt le eq is_nan of_bits to_bits planes_of_call unseen_of_call each_from plane_of vector_at agent_at plane_for relation_of projected projected_free projected_collision collision_normal on_sphere on_cone cone_time share ◌/ᵥ◌ length_recip normalize_or_zero zero_vec finite plus_zero finite_vec finite_plane plus_zeros answered_with outcome_reply reply_of planes_verdict planned_reply velocity_call solve value_of checks bad_fallback first_of bad_number outside call_kind request_numbers first_holding marked
worked-examples = (refl, (refl, (refl, (refl, (refl, (refl, (refl, (refl, (refl, (refl, (refl, (refl, (refl, (refl, (refl, (refl, (refl, tt)))))))))))))))))
