-- The list of neighbours as the walk over the table makes it.
use mathlib.Core.Path.{◌≡◌, refl, sym, ap, ◌∙◌}
use mathlib.Core.Bool.{Bool, true, false, not, ◌&&◌, cond}
use mathlib.Core.List.{List, [], ◌∷◌, ◌++◌, append_assoc, append-nil}
use Prim.Native.Nat.{ℕ, suc, ◌+◌, ◌*◌, ◌≤◌, ◌<◌}
use native.Mathlib.Numerals.{add-one}
use native.Mathlib.Omega.{arith}
use lib.Dec.{eqb}
use lib.Ieee.{Float}
use lib.ListN.{length, get_or, drop, length-append, drop_of_length-le}
use lib.Seq.{drop-cons}
use Rattle.requests.specs.Lent.{per_agent, agent_numbers}
use Rattle.requests.proofs.AgentNumbers.{numbers-many}
use Rattle.requests.specs.Checks.{needed_scratch, full_scratch}
use borrow.Author.Tests.{eqb-false, eq-eqb, ne_eqb}
use Rattle.records.specs.declared.Record.{Record}
use Rattle.planner.specs.declared.Rule.{Rule}
use Rattle.records.specs.Record.{most_agents, blank, agent_of}
use Rattle.planner.specs.Plan.{keeps, kept_from, neighbour_numbers, own_record, neighbour_indices, neighbours_of}

pub numbers_more : (rs : List Record) (js : List ℕ) (j : ℕ) → neighbour_numbers rs (js ++ j ∷ []) ≡ neighbour_numbers rs js ++ agent_numbers (agent_of (get_or rs j blank))
unfolding neighbour_numbers
numbers_more rs [] j = append-nil (agent_numbers (agent_of (get_or rs j blank)))
numbers_more rs (i ∷ js) j =
    ap (λ (l : List Float). agent_numbers (agent_of (get_or rs i blank)) ++ l) (numbers_more rs js j)
    ∙ sym (append_assoc (agent_numbers (agent_of (get_or rs i blank))) (neighbour_numbers rs js) (agent_numbers (agent_of (get_or rs j blank))))

-- ---- the walk over the agents, which has come to the one at `at`

module _ (rule : Rule) (own : Record) (index at : ℕ) (rs : List Record) where
  -- whether it is kept
  abbrev wanted : Bool
  wanted = not (eqb at index) && keeps rule own (get_or rs at blank)

  later : at < length rs → wanted ≡ false → kept_from rule own index at (drop at rs) ≡ kept_from rule own index (at + 1) (drop (at + 1) rs)
  unfolding kept_from
  later there fails = rw (drop-cons rs at blank there, fails, add-one at)

  -- it is the agent itself
  pub itself : at < length rs → at ≡ index → kept_from rule own index at (drop at rs) ≡ kept_from rule own index (at + 1) (drop (at + 1) rs)
  itself there is = later there (rw (eq-eqb at index is))

  -- the rule does not keep it
  pub left_out : at < length rs → keeps rule own (get_or rs at blank) ≡ false → kept_from rule own index at (drop at rs) ≡ kept_from rule own index (at + 1) (drop (at + 1) rs)
  left_out there fails = later there (rw fails (neither (not (eqb at index))))
    where
      neither : (b : Bool) → (b && false) ≡ false
      neither true = refl
      neither false = refl

  -- it is another that the rule keeps, and is listed after those before it
  pub kept : (js : List ℕ) → at < length rs → (at ≡ index → ⊥) → keeps rule own (get_or rs at blank) ≡ true
      → (js ++ at ∷ []) ++ kept_from rule own index (at + 1) (drop (at + 1) rs) ≡ js ++ kept_from rule own index at (drop at rs)
  unfolding kept_from
  kept js there other holds = append_assoc js (at ∷ []) (kept_from rule own index (at + 1) (drop (at + 1) rs)) ∙ rw (drop-cons rs at blank there, ne_eqb at index other, holds, add-one at)

  -- none is left
  pub past : (js : List ℕ) → length rs ≤ at → js ++ kept_from rule own index at (drop at rs) ≡ js
  unfolding kept_from
  past js h = ap (λ (l : List Record). js ++ kept_from rule own index at l) (drop_of_length-le rs h) ∙ append-nil js

pub numbers_none : (rs : List Record) → neighbour_numbers rs [] ≡ []
unfolding neighbour_numbers
numbers_none rs = refl

pub ruleset walk = (itself, left_out, kept, past, numbers_none, numbers_more)

-- ---- how many are kept

module _ (rule : Rule) (own : Record) (index : ℕ) where
  kept-few : (j : ℕ) (rs : List Record) → length (kept_from rule own index j rs) ≤ length rs
  unfolding kept_from
  kept-few j [] = omega arith
  kept-few j (r ∷ rs) = go (not (eqb j index) && keeps rule own r) (kept-few (suc j) rs)
    where
      go : (b : Bool) → length (kept_from rule own index (suc j) rs) ≤ length rs → length (cond b (j ∷ kept_from rule own index (suc j) rs) (kept_from rule own index (suc j) rs)) ≤ length (r ∷ rs)
      go true h = omega (arith, h)
      go false h = omega (arith, h)

  -- the agent itself is not among them
  kept-fewer : (j : ℕ) (rs : List Record) → j ≤ index → index < j + length rs → length (kept_from rule own index j rs) < length rs
  unfolding kept_from
  kept-fewer j [] below above = absurd (omega arith)
  kept-fewer j (r ∷ rs) below above = go (eqb j index) refl (λ (less : j < index). kept-fewer (suc j) rs less (omega arith))
    where
      go : (b : Bool) → eqb j index ≡ b → (j < index → length (kept_from rule own index (suc j) rs) < length rs)
          → length (cond (not b && keeps rule own r) (j ∷ kept_from rule own index (suc j) rs) (kept_from rule own index (suc j) rs)) < length (r ∷ rs)
      go true is later = omega (arith, kept-few (suc j) rs)
      go false is later = one (keeps rule own r) (later (omega (arith, eqb-false j index is)))
        where
          one : (b : Bool) → length (kept_from rule own index (suc j) rs) < length rs → length (cond b (j ∷ kept_from rule own index (suc j) rs) (kept_from rule own index (suc j) rs)) < length (r ∷ rs)
          one true h = omega (arith, h)
          one false h = omega (arith, h)

numbers-length : (rs : List Record) (js : List ℕ) → length (neighbour_numbers rs js) ≡ per_agent * length js
unfolding neighbour_numbers
numbers-length rs [] = refl
numbers-length rs (j ∷ js) =
    let rec = numbers-length rs js in
    let front = agent_numbers (agent_of (get_or rs j blank)) in
    omega (arith, length-append front (neighbour_numbers rs js), numbers-many (agent_of (get_or rs j blank)))

-- the agents that a plan keeps are fewer than there are
pub few-neighbours : (rule : Rule) (rs : List Record) (index : ℕ) → index < length rs
    → (length (neighbours_of rule rs index) ≡ per_agent * length (neighbour_indices rule rs index)) × (length (neighbour_indices rule rs index) < length rs)
unfolding neighbours_of neighbour_indices
few-neighbours rule rs index there =
    (numbers-length rs _, kept-fewer rule (own_record rs index) index 0 rs (omega arith) (omega (arith, there)))

-- scratch enough for any plan
pub enough-scratch : (rule : Rule) (rs : List Record) (index k : ℕ) → length rs ≤ most_agents → index < length rs → full_scratch ≤ k
    → needed_scratch (neighbours_of rule rs index) ≤ k
enough-scratch rule rs index k few there enough =
    let (numbers, fewer) = few-neighbours rule rs index there in
    omega (arith, few, enough, numbers, fewer)
