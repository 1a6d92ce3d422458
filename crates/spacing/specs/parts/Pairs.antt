-- What the functions over a frame's pairs promise each other: the pairs one after another.
use Rattle.std.specs.Prelude.{ℕ, suc, ◌+◌, cond, List, [], ◌∷◌, map, ltb, eqb}
use Rattle.spacing.specs.declared.pairs.Glance.{Glance}
use Rattle.spacing.specs.declared.pairs.Running.{Running}
use Rattle.spacing.specs.Frame.{Position, squared}

-- ---- a glance at some pairs, and the pair that has the least square

unfoldable pub with_square : ℕ → Glance → ℕ → Glance
with_square limit g d =
    record { least = cond (ltb d g.least) d g.least; below = cond (ltb d limit) (g.below + 1) g.below }

unfoldable pub glanced : ℕ → Glance → List ℕ → Glance
glanced limit g [] = g
glanced limit g (d ∷ ds) = glanced limit (with_square limit g d) ds

unfoldable pub second_of : ℕ → ℕ → List ℕ → ℕ
second_of least second [] = second
second_of least second (d ∷ ds) = cond (eqb d least) second (second_of least (suc second) ds)

-- ---- one pair after another

unfoldable pub with_pair : ℕ → Running → ℕ → ℕ → ℕ → Running
with_pair limit r d first second =
    let below = cond (ltb d limit) (r.below + 1) r.below in
    cond (ltb d r.squared) (record { squared = d; first = first; second = second; below = below })
    (record { squared = r.squared; first = r.first; second = r.second; below = below })

unfoldable pub with_row : ℕ → Running → ℕ → ℕ → List ℕ → Running
with_row limit r first second [] = r
with_row limit r first second (d ∷ ds) = with_row limit (with_pair limit r d first second) first (suc second) ds

unfoldable pub with_pairs : ℕ → Running → ℕ → List Position → Running
with_pairs limit r first [] = r
with_pairs limit r first (p ∷ ps) = with_pairs limit (with_row limit r first (suc first) (map (squared p) ps)) (suc first) ps

abbrev pub start_at : ℕ → Running
start_at bound = record { squared = bound; first = 0; second = 0; below = 0 }
