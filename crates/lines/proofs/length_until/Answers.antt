-- `lines::length_until` meets its contract: the place that `position` finds, or the length, is what the definition counts.
-- Assumes nothing.
use Rattle.std.proofs.Common.{ℕ, ◌+◌, ◌≡◌, ◌≢◌, refl, sym, ◌∙◌, List, [], ◌∷◌, rules, tests, ne_eqb, eq-eqb, add-one}
use Rattle.std.proofs.lemmas.Iterator.{IsFirst-from_position, YieldsList-from_slice, index_from_first}
use Rattle.lines.specs.Lines.{length_until}
use Rattle.lines.proofs.length_until.Goals as goal

hit : (b a : ℕ) (s : List ℕ) → a ≡ b → length_until b (a ∷ s) ≡ 0
unfolding length_until
hit b a s h = simp (eq-eqb _ _ h)

miss : (b a : ℕ) (s : List ℕ) → a ≢ b → length_until b (a ∷ s) ≡ length_until b s + 1
unfolding length_until
miss b a s h = rw add-one (simp (ne_eqb _ _ h))

none : (b : ℕ) → length_until b [] ≡ 0
unfolding length_until
none b = refl

pub returns-clause-value : goal.returns-clause-value
returns-clause-value c =
    let b = c.args.byte in
    let text = c.args.text.now in
    let first = IsFirst-from_position _ _ _ (λ a. a ≡ b) (λ a. a ≢ b) c.position.ensures.ran (YieldsList-from_slice text cc) (λ x q k. search (rules, tests)) (λ x q k. search (rules, tests)) in
    c.unwrap_or.ensures ∙ sym (index_from_first (length_until b) (λ a. a ≡ b) (λ a. a ≢ b) (none b) (λ a s h. hit b a s h) (λ a s h. miss b a s h) text _ first)
