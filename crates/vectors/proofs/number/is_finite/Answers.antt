-- Each infinity is a quotient of literals, which antt computes; then both tests are known for each kind of number.
use mathlib.Core.Path.{◌≡◌, refl, sym, ◌∙◌}
use mathlib.Core.Bool.{true, false}
use lib.Ieee.{Float, nan, inf, fin, lt, neg, div, of_bits}
use Rattle.vectors.specs.Number.{finite, zero, one, ◌⊘◌}
use Rattle.vectors.proofs.number.is_finite.Goals as goal

below-infinity : (x : Float) → lt x (one ⊘ zero) ≡ true → lt (neg (one ⊘ zero)) x ≡ finite x
unfolding lt neg div of_bits finite
below-infinity nan h = refl
below-infinity (inf true) h = refl
below-infinity (inf false) h = sym h
below-infinity (fin s m e) h = refl

not-below : (x : Float) → lt x (one ⊘ zero) ≡ false → false ≡ finite x
unfolding lt neg div of_bits finite
not-below nan h = refl
not-below (inf s) h = refl
not-below (fin s m e) h = sym h

pub returns-then-x-infinity : goal.returns-then-x-infinity
returns-then-x-infinity c = below-infinity c.args.x c.if-x-infinity.true

pub returns-else-x-infinity : goal.returns-else-x-infinity
returns-else-x-infinity c = c.if-x-infinity.false ∙ not-below c.args.x c.if-x-infinity.false
