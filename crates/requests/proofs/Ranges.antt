-- Numbers that are not outside their kind: any number where no range is asked, and one above 0.
use mathlib.Core.Path.{◌≡◌, refl}
use mathlib.Core.Bool.{true, false}
use lib.Ieee.{Float}
use Rattle.vectors.specs.Number.{◌>ᶠ◌, zero}
use Rattle.requests.specs.declared.Kind.TheVariants.{Any, Positive}
use Rattle.requests.specs.Checks.{outside}

pub never-outside : (x : Float) → outside Any x ≡ false
unfolding outside
never-outside x = refl

pub above_zero : (x : Float) → x >ᶠ zero ≡ true → outside Positive x ≡ false
unfolding outside
above_zero x e = rw e
