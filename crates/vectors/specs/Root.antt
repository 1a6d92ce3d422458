-- The square root, document 01's module 1: first the statement, nearest over whole numbers, and then a definition that computes it.
use Rattle.std.specs.Prelude.{ℕ, zero, suc, ◌+◌, ◌-◌, ◌*◌, ◌/◌, ◌^◌, ◌≤◌, ◌<◌, true, false, cond, leb, ltb, Float}
use Rattle.std.specs.Float.{nan, inf, fin}
use Rattle.std.specs.Float.Ieee.{up, down, size, odd}
use Rattle.std.specs.Float.Ieee.Exact.{HasValue}

-- ---- the statement

-- Document 01's statement, that y is the nearest to the root of x, which is positive and finite. Its k counts from -149 here, so that it is a whole number: x is a * 4 ^ (k - 149) and y is r * 2 ^ (k - 149).
-- (`HasValue x s n d` says that x is finite, has the sign s and is n / d in size.)
pub record NearestRoot (x y : Float) : Type 0 where
  pub a : ℕ
  pub k : ℕ
  pub r : ℕ
  pub argument : HasValue x false (a * 4 ^ k) (4 ^ 149)
  pub a-least : 2 ^ 46 ≤ a
  pub a-most : a < 2 ^ 48
  pub result : HasValue y false (r * 2 ^ k) (2 ^ 149)
  pub r-least : 2 ^ 23 ≤ r
  pub r-most : r < 2 ^ 24
  pub above : (2 * r - 1) * (2 * r - 1) < 4 * a
  pub below : 4 * a < (2 * r + 1) * (2 * r + 1)

-- ---- the definition

-- the whole part of the root of an a below 4 ^ n, a binary digit at a time
unfoldable pub floor_root : ℕ → ℕ → ℕ
floor_root zero a = 0
floor_root (suc n) a = let s = 2 * floor_root n (a / 4) in cond (leb ((s + 1) * (s + 1)) a) (s + 1) s

-- The whole number nearest to the root of an a below 4 ^ 24. The root of a is above s + 1/2 exactly when a is above s * s + s.
unfoldable pub nearest_root : ℕ → ℕ
unfolding floor_root
nearest_root a = let s = floor_root 24 a in cond (ltb (s * s + s) a) (s + 1) s

-- The root of n * 4 ^ -149, for an n of 47 digits or more: where n is the statement's a * 4 ^ k it is r * 2 ^ k * 2 ^ -149, with r the nearest to the root of a.
unfoldable pub root_of : ℕ → Float
unfolding nearest_root size odd
root_of n = let k = (size n - 47) / 2 in odd 24 false (nearest_root (n / 4 ^ k)) k 149

-- A positive finite binary32 has the one root that meets the statement (`RootNearest`, `RootOnly` in Claims.antt).
-- Zeros keep their sign; +infinity stays; a negative number and NaN give NaN.
unfoldable pub root : Float → Float
unfolding root_of
root nan = nan
root (inf false) = inf false
root (inf true) = nan
root (fin s zero e) = fin s zero e
root (fin true (suc m) e) = nan
root (fin false (suc m) e) = root_of (suc m * up e * 4 ^ 149 / down e)
