-- What the tests of a component say: beyond 16384 either way, an infinity too, or else no number.
use mathlib.Core.Path.{◌≡◌, refl}
use mathlib.Core.Bool.{true, false}
use lib.Ieee.{Float, nan, inf, fin, lt, neg, is_nan, of_bits}
use Rattle.spacing.specs.Frame.{farthest, out_of_reach}

pub above : (x : Float) → lt farthest x ≡ true → out_of_reach x ≡ true
unfolding out_of_reach
above nan h = refl
above (inf s) h = refl
above (fin s m e) h = rw h

pub below : (x : Float) → lt farthest x ≡ false → lt x (neg farthest) ≡ true → out_of_reach x ≡ true
unfolding out_of_reach neg of_bits
below nan h g = refl
below (inf s) h g = refl
below (fin s m e) h g = rw (h, g)

pub between : (x : Float) → lt farthest x ≡ false → lt x (neg farthest) ≡ false → out_of_reach x ≡ is_nan x
unfolding out_of_reach is_nan lt neg of_bits
between nan h g = refl
between (inf false) h g = cc
between (inf true) h g = cc
between (fin s m e) h g = rw (h, g)

pub ruleset reach_tests = (above, below, between)
