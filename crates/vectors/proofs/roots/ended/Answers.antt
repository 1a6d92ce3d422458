-- Each selection by what its comparison says of x.
use mathlib.Core.Path.{sym, ◌∙◌, subst}
use mathlib.Core.Bool.{Bool, not}
use Prim.Native.Nat.{◌%◌, ◌^◌, ◌≤◌}
use native.Mathlib.Omega.{arith}
use lib.Dec.{T}
use lib.Ieee.{binary32}
use lib.Ieee.Bits.{nan_bits_above}
use borrow.Author.Tests.{le-ltb}
use Rattle.vectors.proofs.root.NotAbove.{infinity-stays, zero-stays, rest-is-nan}
use Rattle.vectors.proofs.roots.ended.Goals as goal
use Rattle.vectors.proofs.roots.ended.Goals.{then-x-2, then-x, else-x-2, else-x}

pub float_from_bits-found : goal.float_from_bits-found
float_from_bits-found c =
    let small : c.args.word % 2 ^ 31 ≤ 0x7F80_0000 = omega (arith, c.requires.0) in
    subst (λ (t : Bool). T (not t)) (sym (nan_bits_above binary32 _ ∙ le-ltb _ _ small)) tt

pub returns-then-x-3 : goal.returns-then-x-3
returns-then-x-3 c =
    elim c.if-x-2.branch [ then-x-2 w ↦ w.above-is ∙ c.requires.1 c.if-x-3.true w.if-x-2.true | else-x-2 w ↦ w.above-is ∙ infinity-stays c.args.x c.if-x-3.true w.if-x-2.false ]

pub returns-else-x-3 : goal.returns-else-x-3
returns-else-x-3 c =
    elim c.if-x.branch [ then-x w ↦ w.not_above-is ∙ zero-stays c.args.x w.if-x.true | else-x w ↦ w.not_above-is ∙ rest-is-nan c.args.x c.if-x-3.false w.if-x.false ]
