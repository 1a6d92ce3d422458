-- The report of a list of frames, over the whole list.
use Rattle.std.specs.Prelude.{ℕ, suc, ◌*◌, cond, List, [], ◌∷◌, ◌++◌, ltb, length, Option, Some, None, Float}
use Rattle.spacing.specs.declared.Sighting.{Sighting}
use Rattle.spacing.specs.declared.Report.{Report}
use Rattle.spacing.specs.Frame.{positions, pairs}

-- every pair of every frame, in order; the head of the list has the number `frame`
unfoldable pub sightings : ℕ → List (List Float) → List Sighting
sightings frame [] = []
sightings frame (f ∷ fs) = pairs frame 0 (positions f) ++ sightings (suc frame) fs

-- the smaller of two, and of two that are equal the first
unfoldable pub lesser : Option Sighting → Option Sighting → Option Sighting
lesser None b = b
lesser (Some s) None = Some s
lesser (Some s) (Some t) = cond (ltb t.squared s.squared) (Some t) (Some s)

unfoldable pub smallest_of : List Sighting → Option Sighting
smallest_of [] = None
smallest_of (s ∷ ss) = lesser (Some s) (smallest_of ss)

-- how many have a square below that of the limit
unfoldable pub below_of : ℕ → List Sighting → ℕ
below_of limit [] = 0
below_of limit (s ∷ ss) = cond (ltb s.squared (limit * limit)) (suc (below_of limit ss)) (below_of limit ss)

unfoldable pub report_of : ℕ → List (List Float) → Report
report_of limit frames = record {
  frames = length frames;
  smallest = smallest_of (sightings 0 frames);
  below = below_of limit (sightings 0 frames);
}
