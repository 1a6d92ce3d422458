-- A positive finite x is taken apart by `scale`, rooted among the whole numbers and written back as a pattern; zero, infinity and the rest are settled by the kind of number.
use mathlib.Core.Path.{◌≡◌, sym, ap, ◌∙◌, subst}
use mathlib.Core.Bool.{Bool, not}
use Prim.Native.Nat.{ℕ, ◌+◌, ◌*◌, ◌%◌, ◌^◌, ◌≤◌, ◌<◌}
use native.Mathlib.Omega.{arith}
use lib.Dec.{T}
use lib.Ieee.{binary32}
use lib.Ieee.Bits.{of_bits-to_bits, nan_bits_above}
use borrow.Author.Tests.{le-ltb}
use denote.Floats.{passes}
use Rattle.vectors.specs.Number.{of_word, to_word}
use Rattle.vectors.specs.Root.{root, nearest_root}
use Rattle.vectors.proofs.root.NotAbove.{infinity-stays, zero-stays, rest-is-nan}
use Rattle.vectors.proofs.root.Binary.{half_power, even-most, even_is, field_is, pattern-is, positive-word}
use Rattle.vectors.proofs.root.root.Goals as goal

-- the digits' root, and the pattern that it makes with the exponent
pattern : (c : goal.After-nearest_root-r) → let at = c.scale-parts.result in
    (half_power at.power * 2 ^ 23 + c.nearest_root-r.result < 0x7F80_0000) × (of_word (half_power at.power * 2 ^ 23 + c.nearest_root-r.result) ≡ root (of_word (to_word c.args.x)))
pattern c =
    pattern-is _ _ _ c.scale-parts.ensures c.nearest_root-r.result (c.nearest_root-r.ensures ∙ ap (λ (m : ℕ). nearest_root (m * 2 ^ 23)) (even_is _ _ _ c.scale-parts.ensures))

pub scale-parts-requires : goal.scale-parts-requires
scale-parts-requires c = positive-word _ (passes _ c.well_formed.0.1) c.if-x.true c.if-x-2.true

pub nearest_root-r-requires : goal.nearest_root-r-requires
nearest_root-r-requires c = subst (λ (m : ℕ). m < 2 ^ 25) (sym (even_is _ _ _ c.scale-parts.ensures)) (even-most _ c.scale-parts.result.power c.scale-parts.ensures.q-most)

pub overflow_add-result : goal.overflow_add-result
overflow_add-result c = record { fits = omega (arith, field_is _ _ _ c.scale-parts.ensures, (pattern c).0) }

pub float_from_bits-result : goal.float_from_bits-result
float_from_bits-result c =
    let k = half_power c.scale-parts.result.power in
    let small : (k * 2 ^ 23 % 2 ^ 32 + c.nearest_root-r.result) % 2 ^ 31 ≤ 0x7F80_0000 = omega (arith, field_is _ _ _ c.scale-parts.ensures, (pattern c).0) in
    subst (λ (t : Bool). T (not t)) (sym (nan_bits_above binary32 _ ∙ le-ltb _ _ small)) tt

pub returns-then-x-3 : goal.returns-then-x-3
returns-then-x-3 c = zero-stays c.args.x c.if-x-3.true

pub returns-then-x-2 : goal.returns-then-x-2
returns-then-x-2 c =
    ap (λ (f : ℕ). of_word (f + c.nearest_root-r.result)) (field_is _ _ _ c.scale-parts.ensures)
    ∙ (pattern c).1
    ∙ ap root (of_bits-to_bits binary32 c.args.x (passes _ c.well_formed.0.1))

pub returns-else-x-2 : goal.returns-else-x-2
returns-else-x-2 c = infinity-stays c.args.x c.if-x.true c.if-x-2.false

pub returns-else-x-3 : goal.returns-else-x-3
returns-else-x-3 c = rest-is-nan c.args.x c.if-x.false c.if-x-3.false
