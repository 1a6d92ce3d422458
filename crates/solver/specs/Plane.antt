-- `signed_distance_to_plane`, and the loop over constraints of all four programs.
use Rattle.std.specs.Prelude.{List, [], ◌∷◌, ◌++◌, Float}
use Rattle.vectors.specs.declared.Vec3.{Vec3}
use Rattle.vectors.specs.Vec3.{◌-ᵥ◌, dot}
use Rattle.solver.specs.declared.Plane.{Plane}

-- how far p lies on the plane's valid side; below 0 on the other
unfoldable pub signed_distance : Plane → Vec3 → Float
signed_distance plane p = dot (p -ᵥ plane.point) plane.normal

-- the Rust's loop over its constraints, whose body is `step`: each constraint in turn, with those passed before it
unfoldable pub in_turn : {State : Type 0} → (List Plane → Plane → State → State) → List Plane → List Plane → State → State
in_turn step passed [] state = state
in_turn step passed (constraint ∷ constraints) state = in_turn step (passed ++ constraint ∷ []) constraints (step passed constraint state)
