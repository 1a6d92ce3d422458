-- Of a number above zero the pattern is looked at. Where that is not finite, or there is none, the claim is of no number.
use mathlib.Core.Path.{◌≡◌, sym, ap, ◌∙◌, subst}
use mathlib.Core.Bool.{false≢true}
use Prim.Native.Nat.{ℕ, ◌^◌, ◌<◌}
use native.Mathlib.Nat.{not-le_of_lt}
use native.Mathlib.Omega.{arith}
use borrow.Author.Tests.{ltb-true, ltb-false}
use denote.Floats.{passes}
use lib.Ieee.{Float, binary32}
use lib.Ieee.Bits.{of_bits-to_bits}
use lib.Dec.{ltb}
use lib.IntN.{pos}
use lib.Signed.{lt_z}
use mir.Syntax.{w32}
use mir.Val.{to_z}
use mir.Facts.{to_z_pos}
use Rattle.vectors.specs.Number.{of_word}
use Rattle.vectors.specs.parts.Roots.{Where}
use Rattle.vectors.proofs.root.Binary.{above_word, positive-word}
use Rattle.vectors.proofs.root.NotAbove.{positive-no-nan}
use Rattle.vectors.proofs.roots.word_of.Lts as lts
use Rattle.vectors.proofs.roots.word_of.Reads as reads
use Rattle.vectors.proofs.roots.word_of.Goals as goal
use Rattle.vectors.proofs.roots.word_of.Goals.{then-x, else-x}

record Taken (x : Float) (word : ℕ) : Type 0 where
  pub some : 0 < word
  pub few : word < 2 ^ 31
  pub own : Where x (of_word word ≡ x)
  pub finite : Where x (word < 0x7F80_0000)

taken : (c : lts.Joined1 reads.Pre reads.Post) → Taken c.args.x c.if-x.word
taken c =
    let x = c.args.x in
    let fits = passes _ c.well_formed.0.1 in
    elim c.if-x.branch [
      | then-x w ↦ subst (Taken x) (sym w.word-is) record {
        some = (above_word x fits w.if-x.true).0;
        few = (above_word x fits w.if-x.true).1;
        own = λ above below. of_bits-to_bits binary32 x fits;
        finite = λ above below. (positive-word x fits above below).1;
      }
      | else-x w ↦ subst (Taken x) (sym w.word-is) record {
        some = omega arith;
        few = omega arith;
        own = λ above below. absurd (false≢true (sym w.if-x.false ∙ above));
        finite = λ above below. absurd (false≢true (sym w.if-x.false ∙ above));
      }
    ]

-- the comparison, which is one of signed numbers
test-is : (c : lts.Joined1 reads.Pre reads.Post) → lt_z (to_z w32 c.if-x.word) (pos 0x7F80_0000) ≡ ltb c.if-x.word 0x7F80_0000
test-is c = ap (λ z. lt_z z (pos 0x7F80_0000)) (to_z_pos w32 {n = c.if-x.word} (taken c).few)

pub float_to_bits-word : goal.float_to_bits-word
float_to_bits-word c = positive-no-nan c.args.x c.if-x.true

pub overflow_cast-word : goal.overflow_cast-word
overflow_cast-word c = record { sfits = (taken c.before.before).few }

pub returns-then-word-lt2139095040 : goal.returns-then-word-lt2139095040
returns-then-word-lt2139095040 c = ((taken c.before.before).some, ltb-true _ _ (sym (test-is c.before.before) ∙ c.if-word-lt2139095040.true), (taken c.before.before).own)

pub returns-else-word-lt2139095040 : goal.returns-else-word-lt2139095040
returns-else-word-lt2139095040 c = (omega arith, omega arith, λ above below. absurd (not-le_of_lt ((taken c.before.before).finite above below) (ltb-false _ _ (sym (test-is c.before.before) ∙ c.if-word-lt2139095040.false))))
