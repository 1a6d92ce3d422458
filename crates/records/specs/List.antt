-- The list that `Records` is: at most 64 records in their order. In the code blank ones stand past the last.
use Rattle.std.specs.Prelude.{ℕ, suc, ◌-◌, cond, List, [], ◌∷◌, ◌++◌, ltb, length, take, drop, replicate}
use Rattle.records.specs.declared.Record.{Record}
use Rattle.records.specs.Record.{most_agents, blank}

-- a list, and blank records up to the 64th place
abbrev pub filled : List Record → List Record
filled rs = rs ++ replicate (most_agents - length rs) blank

-- with one more after the others: as it was, where there is no room for it
unfoldable pub with_pushed : List Record → Record → List Record
with_pushed rs r = cond (ltb (length rs) most_agents) (rs ++ r ∷ []) rs

-- without the one at an index: later ones move down by one
unfoldable pub without : List Record → ℕ → List Record
without rs index = take index rs ++ drop (suc index) rs
