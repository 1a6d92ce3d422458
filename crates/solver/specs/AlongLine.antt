-- `solve_linear_program_along_line`.
use Rattle.std.specs.Prelude.{cond, List, [], Option, Some, None, Float}
use Rattle.std.specs.Float.Ieee.{neg}
use Rattle.vectors.specs.declared.Vec3.{Vec3}
use Rattle.vectors.specs.Number.{◌⊕◌, ◌⊖◌, ◌⊗◌, ◌⊘◌, ◌<ᶠ◌, ◌≤ᶠ◌, ◌>ᶠ◌, ◌≥ᶠ◌, zero, rvo_epsilon, larger, smaller, clamped}
use Rattle.vectors.specs.Root.{root}
use Rattle.vectors.specs.Vec3.{◌+ᵥ◌, ◌-ᵥ◌, ◌*ᵥ◌, dot}
use Rattle.solver.specs.declared.Plane.{Plane}
use Rattle.solver.specs.declared.Line.{Line}
use Rattle.solver.specs.declared.Optimum.{Optimum}
use Rattle.solver.specs.declared.Optimum.TheVariants.{Point, Direction}
use Rattle.solver.specs.declared.OnLine.{OnLine}
use Rattle.solver.specs.declared.OnLine.TheVariants.{Value, Infeasible, BadClamp}
use Rattle.solver.specs.declared.along_line.Times.{Times}
use Rattle.solver.specs.Plane.{signed_distance, in_turn}

-- the times from one bound to another
abbrev pub between : Float → Float → Option Times
between left right = Some (record { left = left; right = right })

-- and none where left > right
unfoldable pub open_or : Float → Float → Option Times
open_or left right = cond (left >ᶠ right) None (between left right)

-- one constraint: nearly parallel to the line, it shuts it or leaves it; otherwise it moves one bound
unfoldable pub cut_by : Line → Plane → Option Times → Option Times
cut_by line constraint None = None
cut_by line constraint (Some times) =
    let direction_dot = dot line.direction constraint.normal in
    let numerator = signed_distance constraint line.point in
    let t = neg numerator ⊘ direction_dot in
    cond (direction_dot ⊗ direction_dot ≤ᶠ rvo_epsilon)
    (cond (numerator <ᶠ neg rvo_epsilon) None (Some times))
    (cond (direction_dot ≥ᶠ zero) (open_or (larger times.left t) times.right) (open_or times.left (smaller times.right t)))

unfoldable pub cut_all : Line → List Plane → Option Times → Option Times
cut_all line constraints times = in_turn (λ passed constraint. cut_by line constraint) [] constraints times

-- `line.point + t * line.direction`
unfoldable pub point_on : Line → Float → Vec3
point_on line t = line.point +ᵥ line.direction *ᵥ t

-- with a point as the optimum the time is clamped; a bad pair of bounds is an answer of its own
unfoldable pub at_clamped : Line → Option Float → OnLine
at_clamped line (Some t) = Value (point_on line t)
at_clamped line None = BadClamp

unfoldable pub best_on : Line → Optimum → Option Times → OnLine
best_on line optimum None = Infeasible
best_on line (Direction x y z) (Some times) =
    Value (point_on line (cond (dot (record { x = x; y = y; z = z }) line.direction >ᶠ zero) times.right times.left))
best_on line (Point x y z) (Some times) =
    at_clamped line (clamped (dot line.direction (record { x = x; y = y; z = z } -ᵥ line.point)) times.left times.right)

unfoldable pub along_line : Line → Float → List Plane → Optimum → OnLine
along_line line radius constraints optimum =
    let line_dot = dot line.point line.direction in
    let discriminant = line_dot ⊗ line_dot ⊕ radius ⊗ radius ⊖ dot line.point line.point in
    let half = root discriminant in
    cond (discriminant <ᶠ zero) Infeasible (best_on line optimum (cut_all line constraints (between (neg line_dot ⊖ half) (neg line_dot ⊕ half))))
