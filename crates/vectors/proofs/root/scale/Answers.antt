-- Where the exponent's field is 0 the leading zeros say how far the digits are moved up; elsewhere the pattern's digits lack only their first one, which is added.
use mathlib.Core.Path.{sym, subst}
use Prim.Native.Nat.{ℕ, ◌+◌, ◌*◌, ◌-◌, ◌/◌, ◌^◌, ◌≤◌, ◌<◌}
use lib.Bits.{and_mask}
use lib.Count.{count_leading_zeros}
use native.Mathlib.Nat.{mod-eq_of_lt}
use native.Mathlib.Omega.{arith}
use Rattle.vectors.specs.Number.{of_word}
use Rattle.vectors.specs.parts.Root.{Parts}
use Rattle.vectors.proofs.root.Binary.{normal-parts, subnormal-parts, shift_of, shift-bounds}
use Rattle.vectors.proofs.root.scale.Goals as goal

-- in the first branch the exponent's field is 0
small : (c : goal.Then-field-eq0) → c.args.word < 2 ^ 23
small c = omega arith

bounds : (c : goal.Then-field-eq0) → (8 ≤ count_leading_zeros 32 c.args.word) × (shift_of c.args.word < 24)
bounds c = shift-bounds c.args.word c.requires.0 (small c)

pub overflow_sub-shift : goal.overflow_sub-shift
overflow_sub-shift c = (bounds c).0

pub returns-then-field-eq0 : goal.returns-then-field-eq0
returns-then-field-eq0 c =
    let word = c.args.word in
    let parts = subnormal-parts word c.requires.0 (small c) in
    let whole : word * 2 ^ shift_of word < 2 ^ 32 = omega (arith, parts.q-most) in
    subst (λ (q : ℕ). Parts (of_word word) q (149 - shift_of word)) (sym (mod-eq_of_lt whole)) parts

pub returns-else-field-eq0 : goal.returns-else-field-eq0
returns-else-field-eq0 c =
    let word = c.args.word in
    subst (λ (f : ℕ). Parts (of_word word) (2 ^ 23 + f) (148 + word / 2 ^ 23)) (sym (and_mask word 23)) (normal-parts word (omega arith) c.requires.1)
