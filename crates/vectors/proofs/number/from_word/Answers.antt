-- A pattern that is above infinity's once the sign is dropped is read as `nan`, which is also 0 / 0; any other is no NaN's, as the machine's `from_bits` asks.
use mathlib.Core.Path.{◌≡◌, refl, sym, ◌∙◌, subst}
use mathlib.Core.Bool.{Bool, true, not, false≢true}
use lib.Dec.{T}
use lib.Ieee.{Float, nan, inf, fin, is_nan, div, of_bits, binary32}
use lib.Ieee.Bits.{nan_bits_is, nan_bits_above}
use borrow.Author.Tests.{lt-ltb, le-ltb}
use Rattle.vectors.specs.Number.{of_word, zero, ◌⊘◌}
use Rattle.vectors.proofs.number.from_word.Goals as goal

no_number : (x : Float) → is_nan x ≡ true → zero ⊘ zero ≡ x
unfolding div of_bits is_nan
no_number nan h = refl
no_number (inf s) h = absurd (false≢true h)
no_number (fin s m e) h = absurd (false≢true h)

pub float_from_bits-result : goal.float_from_bits-result
float_from_bits-result c = subst (λ (t : Bool). T (not t)) (sym (nan_bits_above binary32 _ ∙ le-ltb _ _ c.if-word-gt2139095040.false)) tt

pub returns-then-word-gt2139095040 : goal.returns-then-word-gt2139095040
returns-then-word-gt2139095040 c = no_number (of_word c.args.word) (sym (nan_bits_is binary32 _) ∙ nan_bits_above binary32 _ ∙ lt-ltb _ _ c.if-word-gt2139095040.true)
