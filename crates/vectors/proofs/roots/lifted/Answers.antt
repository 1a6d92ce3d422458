-- A normal number's digits are not moved, and a subnormal one's field counts as 1: the two cases of `scale`, by selection.
use mathlib.Core.Path.{◌≡◌, sym, ap, ◌∙◌, subst₂}
use Prim.Native.Nat.{ℕ, ◌+◌, ◌-◌, ◌*◌, ◌/◌, ◌%◌, ◌^◌, ◌≤◌, ◌<◌}
use native.Mathlib.Nat.{mod-eq_of_lt, mul-one}
use native.Mathlib.Omega.{arith}
use lib.Bits.{bit_and, and_mask}
use Rattle.vectors.specs.Number.{of_word}
use Rattle.vectors.specs.parts.Root.{Parts}
use Rattle.vectors.proofs.root.Binary.{normal-parts, subnormal-parts, shift_of, shift-bounds}
use Rattle.vectors.proofs.roots.lifted.Lts as lts
use Rattle.vectors.proofs.roots.lifted.Reads as reads
use Rattle.vectors.proofs.roots.lifted.Goals as goal
use Rattle.vectors.proofs.roots.lifted.Goals.{then-field-eq0-2, then-field-eq0, else-field-eq0-2, else-field-eq0}

-- what is selected, by the exponent's field
record Selected (word shift least : ℕ) : Type 0 where
  pub few : shift < 24
  pub power-most : least ≤ 254
  pub power-least : shift ≤ 148 + least
  pub parts : Parts (of_word word) (0x80_0000 + bit_and (word * 2 ^ shift % 2 ^ 32) 0x7F_FFFF) (148 + least - shift)

normal : (word : ℕ) → (word / 2 ^ 23 ≡ 0 → ⊥) → word < 0x7F80_0000 → Selected word 0 (word / 2 ^ 23)
normal word some most =
    let large : 2 ^ 23 ≤ word = omega arith in
    let digits : 2 ^ 23 + word % 2 ^ 23 ≡ 0x80_0000 + bit_and (word * 2 ^ 0 % 2 ^ 32) 0x7F_FFFF =
    ap (λ (x : ℕ). 2 ^ 23 + x % 2 ^ 23) (sym (mod-eq_of_lt (omega arith) ∙ mul-one word)) ∙ ap (λ (x : ℕ). 2 ^ 23 + x) (sym (and_mask (word * 2 ^ 0 % 2 ^ 32) 23)) in
    record {
      few = omega arith;
      power-most = omega arith;
      power-least = omega arith;
      parts = subst₂ (Parts (of_word word)) digits (omega arith) (normal-parts word large most);
    }

subnormal : (word : ℕ) → word / 2 ^ 23 ≡ 0 → 0 < word → Selected word (shift_of word) 1
subnormal word none some =
    let small : word < 2 ^ 23 = omega arith in
    let bounds = shift-bounds word some small in
    let parts = subnormal-parts word some small in
    let whole : word * 2 ^ shift_of word % 2 ^ 32 ≡ word * 2 ^ shift_of word = mod-eq_of_lt (omega (arith, parts.q-most)) in
    let digits : word * 2 ^ shift_of word ≡ 0x80_0000 + bit_and (word * 2 ^ shift_of word % 2 ^ 32) 0x7F_FFFF =
    first-digit (word * 2 ^ shift_of word) parts.q-least parts.q-most ∙ ap (λ (x : ℕ). 2 ^ 23 + x % 2 ^ 23) (sym whole) ∙ ap (λ (x : ℕ). 2 ^ 23 + x) (sym (and_mask (word * 2 ^ shift_of word % 2 ^ 32) 23)) in
    record {
      few = bounds.1;
      power-most = omega arith;
      power-least = omega (arith, bounds);
      parts = subst₂ (Parts (of_word word)) digits (omega arith) parts;
    }
  where
    first-digit : (q : ℕ) → 2 ^ 23 ≤ q → q < 2 ^ 24 → q ≡ 2 ^ 23 + q % 2 ^ 23
    first-digit q lo hi = omega arith

selected : (c : lts.Joined2 reads.Pre reads.Post) → Selected c.args.word c.if-field-eq0.shift c.if-field-eq0-2.least
selected c =
    let word = c.args.word in
    elim c.if-field-eq0.branch [ then-field-eq0 w ↦ (elim c.if-field-eq0-2.branch [ then-field-eq0-2 v ↦ subst₂ (Selected word) (sym w.shift-is) (sym v.least-is) (subnormal word w.if-field-eq0.true c.requires.0) | else-field-eq0-2 v ↦ absurd (v.if-field-eq0-2.false w.if-field-eq0.true) ]) | else-field-eq0 w ↦ (elim c.if-field-eq0-2.branch [ then-field-eq0-2 v ↦ absurd (w.if-field-eq0.false v.if-field-eq0-2.true) | else-field-eq0-2 v ↦ subst₂ (Selected word) (sym w.shift-is) (sym v.least-is) (normal word w.if-field-eq0.false c.requires.1) ]) ]

pub overflow_sub-shift : goal.overflow_sub-shift
overflow_sub-shift c = (shift-bounds c.args.word c.requires.0 (omega (arith, c.if-field-eq0.true))).0

pub returns : goal.returns
returns c = (selected c.before.before).parts
