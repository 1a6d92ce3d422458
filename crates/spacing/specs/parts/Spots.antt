-- What the functions over a frame's spots promise each other: whose they are, and the squared distances between them.
use Rattle.std.specs.Prelude.{ℕ, zero, suc, ◌+◌, ◌-◌, ◌*◌, ◌≡◌, List, [], ◌∷◌, get_or, Float}
use Rattle.spacing.specs.declared.spots.FromCorner.{FromCorner}
use Rattle.spacing.specs.declared.spots.Spot.{Spot}
use Rattle.spacing.specs.declared.spots.Spots.{Spots}
use Rattle.spacing.specs.Frame.{square}
use Rattle.spacing.specs.parts.Frame.{FitFrame, Along}

-- the agents of a frame
pub record SpotsOf (frame : List Float) (spots : Spots) : Type 0 where
  pub fit : FitFrame spots.agents frame
  pub along-x : Along spots.agents 0 frame spots.xs
  pub along-y : Along spots.agents 1 frame spots.ys
  pub along-z : Along spots.agents 2 frame spots.zs

-- the agent at an index
pub record SpotAt (spots : Spots) (k : ℕ) (spot : Spot) : Type 0 where
  pub x : spot.position.x ≡ get_or spots.xs k 0
  pub y : spot.position.y ≡ get_or spots.ys k 0
  pub z : spot.position.z ≡ get_or spots.zs k 0

abbrev pub dot : FromCorner → FromCorner → ℕ
dot p q = p.x * q.x + p.y * q.y + p.z * q.z

abbrev pub between : ℕ → ℕ → ℕ
between a b = a - b + (b - a)

abbrev pub squared_between : Spot → Spot → ℕ
squared_between p q =
    square (between p.position.x q.position.x) + square (between p.position.y q.position.y) + square (between p.position.z q.position.z)

abbrev pub squared_at : Spots → ℕ → ℕ → ℕ
squared_at spots i j =
    square (between (get_or spots.xs i 0) (get_or spots.xs j 0))
    + square (between (get_or spots.ys i 0) (get_or spots.ys j 0))
    + square (between (get_or spots.zs i 0) (get_or spots.zs j 0))

-- f j, f (j + 1) and on, so many of them
unfoldable pub listed : ℕ → ℕ → (ℕ → ℕ) → List ℕ
listed zero j f = []
listed (suc n) j f = f j ∷ listed n (suc j) f

-- the squared distances of the first agent from the others, from the second on
unfoldable pub squares_from : Spots → ℕ → ℕ → List ℕ
squares_from spots first second = listed (spots.agents - second) second (squared_at spots first)
