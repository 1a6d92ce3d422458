-- One agent's pairs: the turns of the loops over them, and that a glance at them, with the pair that it finds, is what the pairs one after another leave.
use mathlib.Core.Path.{◌≡◌, refl, ap, ◌∙◌}
use mathlib.Core.Bool.{Bool, true, false, cond}
use mathlib.Core.List.{List, [], ◌∷◌}
use Prim.Native.Nat.{ℕ, suc, ◌+◌, ◌-◌, ◌≤◌, ◌<◌}
use native.Mathlib.Numerals.{add-one}
use native.Mathlib.Omega.{arith}
use lib.Dec.{ltb, eqb}
use borrow.Author.Tests.{lt-ltb, le-ltb, ltb-true, ltb-false, eq-eqb, ne_eqb}
use Rattle.spacing.specs.declared.pairs.Glance.{Glance}
use Rattle.spacing.specs.declared.pairs.Running.{Running}
use Rattle.spacing.specs.declared.spots.Spots.{Spots}
use Rattle.spacing.specs.parts.Spots.{squared_at, listed, squares_from}
use Rattle.spacing.specs.parts.Pairs.{with_square, glanced, second_of, with_pair, with_row}

-- ---- an agent's squares

module _ (spots : Spots) (first second : ℕ) where
  one_more : second < spots.agents → squares_from spots first second ≡ squared_at spots first second ∷ squares_from spots first (second + 1)
  unfolding listed squares_from
  one_more h =
      let left : spots.agents - second ≡ suc (spots.agents - suc second) = omega arith in
      rw (left, add-one second)

  none_left : spots.agents ≤ second → squares_from spots first second ≡ []
  unfolding listed squares_from
  none_left h = let left : spots.agents - second ≡ 0 = omega arith in rw left

  -- ---- a glance

  pub glance_more : (limit : ℕ) (g : Glance) → second < spots.agents
      → glanced limit g (squares_from spots first second)
      ≡ glanced limit (with_square limit g (squared_at spots first second)) (squares_from spots first (second + 1))
  unfolding glanced
  glance_more limit g h = rw (one_more h)

  pub glance_end : (limit : ℕ) (g : Glance) → spots.agents ≤ second → glanced limit g (squares_from spots first second) ≡ g
  unfolding glanced
  glance_end limit g h = rw (none_left h)

  -- ---- the pair that has the least square

  pub here : (least : ℕ) → second < spots.agents → squared_at spots first second ≡ least → second_of least second (squares_from spots first second) ≡ second
  unfolding second_of
  here least h is = rw (one_more h, eq-eqb (squared_at spots first second) least is)

  pub later : (least : ℕ) → second < spots.agents → (squared_at spots first second ≡ least → ⊥)
      → second_of least second (squares_from spots first second) ≡ second_of least (second + 1) (squares_from spots first (second + 1))
  unfolding second_of
  later least h is = rw (one_more h, ne_eqb (squared_at spots first second) least is, add-one second)

  pub nowhere : (least : ℕ) → spots.agents ≤ second → second_of least second (squares_from spots first second) ≡ second
  unfolding second_of
  nowhere least h = rw (none_left h)

pub ruleset glance_steps = (glance_more, glance_end)

pub ruleset second_steps = (here, later, nowhere)

-- ---- the pairs one after another

-- a glance never rises above its bound
least-falls : (limit : ℕ) (g : Glance) (ds : List ℕ) → (glanced limit g ds).least ≤ g.least
unfolding glanced with_square
least-falls limit g [] = omega arith
least-falls limit g (d ∷ ds) = go (ltb d g.least) refl (least-falls limit (with_square limit g d) ds)
  where
    go : (b : Bool) → ltb d g.least ≡ b → (glanced limit (with_square limit g d) ds).least ≤ cond b d g.least → (glanced limit (with_square limit g d) ds).least ≤ g.least
    go true e h = omega (arith, ltb-true d g.least e)
    go false e h = h

-- what a row leaves of r, by a glance at it and the second agent that has its least square
abbrev leaves : Running → ℕ → Glance → ℕ → Running
leaves r first g second =
    cond (ltb g.least r.squared) (record { squared = g.least; first = first; second = second; below = g.below })
    (record { squared = r.squared; first = r.first; second = r.second; below = g.below })

abbrev bound : Running → Glance
bound r = record { least = r.squared; below = r.below }

-- one pair more in front of a glance
module _ (limit : ℕ) (r : Running) (first second d : ℕ) where
  same-bound : bound (with_pair limit r d first second) ≡ with_square limit (bound r) d
  unfolding with_pair with_square
  same-bound = go (ltb d r.squared) (cond (ltb d limit) (r.below + 1) r.below)
    where
      go : (b : Bool) (below : ℕ)
          → bound (cond {A = Running} b (record { squared = d; first = first; second = second; below = below }) (record { squared = r.squared; first = r.first; second = r.second; below = below }))
          ≡ record { least = cond b d r.squared; below = below }
      go true below = refl
      go false below = refl

  in-front : (g : Glance) (k : ℕ) → g.least ≤ (with_square limit (bound r) d).least → leaves (with_pair limit r d first second) first g k ≡ leaves r first g (cond (eqb d g.least) second k)
  unfolding with_pair with_square
  in-front g k falls = go (ltb d r.squared) refl falls
    where
      below : ℕ
      below = cond (ltb d limit) (r.below + 1) r.below

      nearer : d < r.squared → g.least ≤ d → leaves (record { squared = d; first = first; second = second; below = below }) first g k ≡ leaves r first g (cond (eqb d g.least) second k)
      nearer h falls = rw (lt-ltb g.least r.squared (omega arith)) (by (ltb g.least d) refl)
        where
          by : (b : Bool) → ltb g.least d ≡ b
              → cond {A = Running} b (record { squared = g.least; first = first; second = k; below = g.below }) (record { squared = d; first = first; second = second; below = g.below })
              ≡ record { squared = g.least; first = first; second = cond (eqb d g.least) second k; below = g.below }
          by true e = let less = ltb-true g.least d e in rw (ne_eqb d g.least (λ same. omega (arith, less, same)))
          by false e =
              let is : d ≡ g.least = omega (arith, ltb-false g.least d e) in
              rw (eq-eqb d g.least is) (λ i. record { squared = is i; first = first; second = second; below = g.below })

      farther : r.squared ≤ d → leaves (record { squared = r.squared; first = r.first; second = r.second; below = below }) first g k ≡ leaves r first g (cond (eqb d g.least) second k)
      farther h = by (ltb g.least r.squared) refl
        where
          by : (b : Bool) → ltb g.least r.squared ≡ b
              → cond {A = Running} b (record { squared = g.least; first = first; second = k; below = g.below }) (record { squared = r.squared; first = r.first; second = r.second; below = g.below })
              ≡ cond {A = Running} b (record { squared = g.least; first = first; second = cond (eqb d g.least) second k; below = g.below }) (record { squared = r.squared; first = r.first; second = r.second; below = g.below })
          by true e = let less = ltb-true g.least r.squared e in rw (ne_eqb d g.least (λ same. omega (arith, less, same)))
          by false e = refl

      go : (b : Bool) → ltb d r.squared ≡ b → g.least ≤ cond b d r.squared → leaves (with_pair limit r d first second) first g k ≡ leaves r first g (cond (eqb d g.least) second k)
      go true e falls =
          let is : with_pair limit r d first second ≡ record { squared = d; first = first; second = second; below = below } = rw e in
          ap (λ (q : Running). leaves q first g k) is ∙ nearer (ltb-true d r.squared e) falls
      go false e falls =
          let is : with_pair limit r d first second ≡ record { squared = r.squared; first = r.first; second = r.second; below = below } = rw e in
          ap (λ (q : Running). leaves q first g k) is ∙ farther (ltb-false d r.squared e)

row-glanced : (limit : ℕ) (r : Running) (first second : ℕ) (ds : List ℕ)
    → let g = glanced limit (bound r) ds in with_row limit r first second ds ≡ leaves r first g (second_of g.least second ds)
unfolding with_row glanced second_of
row-glanced limit r first second [] = rw (le-ltb r.squared r.squared (omega arith))
row-glanced limit r first second (d ∷ ds) =
    let q = with_square limit (bound r) d in
    row-glanced limit (with_pair limit r d first second) first (suc second) ds
    ∙ ap (λ (b : Glance). leaves (with_pair limit r d first second) first (glanced limit b ds) (second_of (glanced limit b ds).least (suc second) ds)) (same-bound limit r first second d)
    ∙ in-front limit r first second d (glanced limit q ds) (second_of (glanced limit q ds).least (suc second) ds) (least-falls limit q ds)

module _ (limit : ℕ) (r : Running) (first second : ℕ) (ds : List ℕ) where
  abbrev here_glanced : Glance
  here_glanced = glanced limit (bound r) ds

  pub row_nearer : here_glanced.least < r.squared
      → with_row limit r first second ds
      ≡ record { squared = here_glanced.least; first = first; second = second_of here_glanced.least second ds; below = here_glanced.below }
  row_nearer h = rw (row-glanced limit r first second ds, lt-ltb here_glanced.least r.squared h)

  pub row_same : r.squared ≤ here_glanced.least
      → with_row limit r first second ds ≡ record { squared = r.squared; first = r.first; second = r.second; below = here_glanced.below }
  row_same h = rw (row-glanced limit r first second ds, le-ltb here_glanced.least r.squared h)

pub ruleset row_left = (row_nearer, row_same)
