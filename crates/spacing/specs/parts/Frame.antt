-- A frame that was let through, and its agents' positions as millimetres from the corner, an array for each axis.
use Rattle.std.specs.Prelude.{ℕ, ◌+◌, ◌*◌, ◌≤◌, ◌<◌, ◌≡◌, List, length, get_or, Float}
use Rattle.std.specs.Float.{nan}
use Rattle.spacing.specs.Millimetres.{millimetres}
use Rattle.spacing.specs.parts.Millimetres.{reach, from_corner}
use Rattle.spacing.specs.Answers.{most_agents, done}
use Rattle.spacing.specs.Tally.{within_reach}

pub record FitFrame (agents : ℕ) (frame : List Float) : Type 0 where
  pub few : agents ≤ most_agents
  pub long : length frame ≡ 3 * agents
  pub within : within_reach 0 frame ≡ done

-- every agent's millimetres along one axis, from the corner
abbrev pub Along : ℕ → ℕ → List Float → List ℕ → Type 0
Along agents axis frame places =
    (k : ℕ) → k < agents → get_or places k 0 ≡ from_corner (millimetres (get_or frame (3 * k + axis) nan))

-- none of them is farther from the corner than the opposite one
abbrev pub Near : ℕ → List ℕ → Type 0
Near agents places = (k : ℕ) → k < agents → get_or places k 0 ≤ 2 * reach

-- every agent's squared distance from the corner
abbrev pub Squares : ℕ → List ℕ → List ℕ → List ℕ → List ℕ → Type 0
Squares agents xs ys zs squares =
    (k : ℕ) → k < agents
    → get_or squares k 0 ≡ get_or xs k 0 * get_or xs k 0 + get_or ys k 0 * get_or ys k 0 + get_or zs k 0 * get_or zs k 0
