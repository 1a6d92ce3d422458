-- A list in places that blank records fill up, as the code has it.
--     pushing: where there is room, a record is pushed, and there is one more
--     pushed, set_there, taken_out: a record after the last, one in place of another, and one taken out keep that form
--     putting: the second of these, and what the list is then
use Rattle.std.proofs.Common.{◌≡◌, ℕ, suc, ◌+◌, ◌-◌, ◌<◌, ◌≤◌, List, [], ◌∷◌, ◌++◌, length, get_or, take, drop, set, sym, ap, ◌∙◌, arith, length-append, length-drop, drop-cons, append_assoc}
use Rattle.std.proofs.lemmas.List.{length-set, length-take, length-take-le, length-replicate, length_push, set_at, set-append_left, take_at, take-set, take_more_set, drop_at}
use Rattle.std.proofs.Math.Seq.{take-set-lt}
use borrow.Author.Tests.{lt-ltb}
use Rattle.std.specs.List.{copy_within}
use Rattle.std.specs.Prelude.{replicate}
use Rattle.records.specs.declared.Record.{Record}
use Rattle.records.specs.Record.{most_agents, blank}
use Rattle.records.specs.List.{filled, with_pushed}

pub pushed_within : (rs : List Record) (r : Record) → length rs < most_agents → with_pushed rs r ≡ rs ++ r ∷ []
unfolding with_pushed
pushed_within rs r room = rw (lt-ltb (length rs) most_agents room)

pub one_more : (rs : List Record) (r : Record) → length rs < most_agents → length (with_pushed rs r) ≡ length rs + 1
one_more rs r room = ap length (pushed_within rs r room) ∙ length_push rs r

pub ruleset pushing = (pushed_within, one_more)

-- ---- how many there are

places : (rs : List Record) → length (filled rs) ≡ length rs + (most_agents - length rs)
places rs = length-append rs (replicate (most_agents - length rs) blank) ∙ ap (λ (n : ℕ). length rs + n) (length-replicate (most_agents - length rs) blank)

module _ (count : ℕ) (slots : List Record) (few : count ≤ most_agents) (full : slots ≡ filled (take count slots)) where
  all_places : length slots ≡ most_agents
  all_places = omega (arith, ap length full, places (take count slots), length-take count slots)

  held-length : length (take count slots) ≡ count
  held-length = length-take-le count slots (omega (arith, all_places))

  -- ---- after a write

  pub pushed : (r : Record) → count < most_agents → set slots count r ≡ filled (take (count + 1) (set slots count r))
  pushed r room =
      let rs = take count slots in
      let rest = replicate (most_agents - length (rs ++ r ∷ [])) blank in
      let here : most_agents - length rs ≡ suc (most_agents - length (rs ++ r ∷ [])) = omega (arith, length_push rs r, held-length) in
      let more : take (count + 1) (set slots count r) ≡ rs ++ r ∷ [] = take_more_set slots count r (omega (arith, all_places)) in
      ap (λ (places : List Record). set places count r) full
      ∙ ap (λ (n : ℕ). set (rs ++ replicate n blank) count r) here
      ∙ set_at rs blank rest r count held-length
      ∙ sym (append_assoc rs (r ∷ []) rest)
      ∙ ap filled (sym more)

  pub set_there : (index : ℕ) (r : Record) → index < count → set slots index r ≡ filled (take count (set slots index r))
  set_there index r there =
      let rs = take count slots in
      ap (λ (places : List Record). set places index r) full
      ∙ set-append_left rs (replicate (most_agents - length rs) blank) index r (omega (arith, held-length))
      ∙ ap (λ (n : ℕ). set rs index r ++ replicate (most_agents - n) blank) (sym (length-set rs index r))
      ∙ ap filled (sym (take-set-lt count slots index r there))

  pub taken_out : (index : ℕ) (places : List Record) (r : Record) → index < count → places ≡ copy_within slots (index + 1) count index → r ≡ blank
      → set places (count - 1) r ≡ filled (take (count - 1) (set places (count - 1) r))
  taken_out index places r there is blanks =
      let kept = take index slots ++ take (count - (index + 1)) (drop (index + 1) slots) in
      let last : index + (count - (index + 1)) ≡ count - 1 = omega arith in
      let kept-length : length kept ≡ count - 1 =
      omega (arith, all_places, length-append (take index slots) (take (count - (index + 1)) (drop (index + 1) slots)), length-take index slots, length-take (count - (index + 1)) (drop (index + 1) slots), length-drop (index + 1) slots) in
      let rs = take count slots in
      let end : suc (count - 1) ≡ count = omega arith in
      let rest : drop (suc (count - 1)) slots ≡ replicate (most_agents - count) blank =
      ap (λ (n : ℕ). drop n slots) end ∙ ap (λ (all : List Record). drop count all) full
      ∙ drop_at rs (replicate (most_agents - length rs) blank) count held-length ∙ ap (λ (n : ℕ). replicate (most_agents - n) blank) held-length in
      let moved : places ≡ kept ++ drop (count - 1) slots = is ∙ ap (λ (n : ℕ). kept ++ drop n slots) last in
      let old = get_or slots (count - 1) blank in
      let after : drop (count - 1) slots ≡ old ∷ replicate (most_agents - count) blank =
      drop-cons slots (count - 1) blank (omega (arith, all_places)) ∙ ap (λ (more : List Record). old ∷ more) rest in
      let room : suc (most_agents - count) ≡ most_agents - length kept = omega (arith, kept-length) in
      let whole : set places (count - 1) r ≡ filled kept =
      ap (λ (all : List Record). set all (count - 1) r) (moved ∙ ap (λ (more : List Record). kept ++ more) after)
      ∙ set_at kept old (replicate (most_agents - count) blank) r (count - 1) kept-length
      ∙ ap (λ (one : Record). kept ++ one ∷ replicate (most_agents - count) blank) blanks
      ∙ ap (λ (n : ℕ). kept ++ replicate n blank) room in
      let start : take (count - 1) (set places (count - 1) r) ≡ kept =
      take-set places (count - 1) r ∙ ap (λ (all : List Record). take (count - 1) all) moved ∙ take_at kept (drop (count - 1) slots) (count - 1) kept-length in
      whole ∙ ap filled (sym start)

-- as the list after it has it
pub there_set : (count : ℕ) (slots : List Record) (index : ℕ) (r : Record) → index < count → take count (set slots index r) ≡ set (take count slots) index r
there_set count slots index r there = take-set-lt count slots index r there

pub ruleset putting = (set_there, there_set)
