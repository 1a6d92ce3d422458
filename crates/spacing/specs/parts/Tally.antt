-- What the functions over a tally promise each other.
use Rattle.std.specs.Prelude.{ℕ, ◌-◌, ◌^◌, cond, ltb, Option, Some, None}
use Rattle.spacing.specs.declared.Sighting.{Sighting}
use Rattle.spacing.specs.declared.pairs.Running.{Running}

-- what a squared distance has to be below to be the smallest: any is below the largest number
unfoldable pub bound_of : Option Sighting → ℕ
bound_of None = 2 ^ 64 - 1
bound_of (Some s) = s.squared

-- the smallest after a frame's pairs
unfoldable pub smallest_after : Option Sighting → ℕ → Running → Option Sighting
smallest_after smallest frame r =
    cond (ltb r.squared (bound_of smallest))
    (Some (record { squared = r.squared; frame = frame; first = r.first; second = r.second }))
    smallest
