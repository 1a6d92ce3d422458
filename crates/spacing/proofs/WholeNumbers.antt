-- Whole numbers with a sign: sizes and distances.
use mathlib.Core.Path.{◌≡◌, refl, sym, ap, ◌∙◌}
use mathlib.Core.Bool.{Bool, true, false, not, cond}
use Prim.Native.Nat.{ℕ, zero, suc, ◌+◌, ◌-◌, ◌*◌, ◌≤◌, ◌<◌}
use native.Mathlib.Nat.{zero-mul}
use native.Mathlib.Omega.{arith}
use lib.IntN.{ℤ, pos, negsuc, neg_ℤ, nat_abs, ◌*ℤ◌, ◌-ℤ◌, neg_ℤ-neg_ℤ, neg_ℤ-+ℤ}
use lib.Dec.{T, ltb, ltb→lt, nltb→le}
use Rattle.spacing.specs.Millimetres.{signed, apart}
use Rattle.spacing.specs.parts.Millimetres.{reach, from_corner}
use Rattle.spacing.specs.parts.Spots.{between}

pub nat_abs-neg : (k : ℤ) → nat_abs (neg_ℤ k) ≡ nat_abs k
nat_abs-neg (pos zero) = refl
nat_abs-neg (pos (suc a)) = refl
nat_abs-neg (negsuc a) = refl

pub nat_abs-signed : (s : Bool) (n : ℕ) → nat_abs (signed s n) ≡ n
nat_abs-signed false n = refl
nat_abs-signed true n = nat_abs-neg (pos n)

pub neg-mul : (k : ℤ) (d : ℕ) → neg_ℤ k *ℤ pos d ≡ neg_ℤ (k *ℤ pos d)
neg-mul (pos zero) d = rw zero-mul
neg-mul (pos (suc a)) d = refl
neg-mul (negsuc a) d = sym (neg_ℤ-neg_ℤ (pos (suc a * d)))

pub neg-signed : (s : Bool) (n : ℕ) → signed (not s) n ≡ neg_ℤ (signed s n)
neg-signed false n = refl
neg-signed true n = sym (neg_ℤ-neg_ℤ (pos n))

pub apart-pos : (a b : ℕ) → apart (pos a) (pos b) ≡ between a b
apart-pos a zero = omega arith
apart-pos a (suc b) = go (ltb a (suc b)) (ltb→lt a (suc b)) (nltb→le a (suc b))
  where
    go : (t : Bool) → (T t → a < suc b) → (T (not t) → suc b ≤ a) → nat_abs (cond t (negsuc (suc b - suc a)) (pos (a - suc b))) ≡ between a (suc b)
    go true below above = omega (arith, below tt)
    go false below above = omega (arith, above tt)

pub apart-neg : (a b : ℕ) → apart (neg_ℤ (pos a)) (pos b) ≡ a + b
apart-neg a b = ap nat_abs (sym (neg_ℤ-+ℤ (pos a) (pos b))) ∙ nat_abs-neg (pos (a + b))

-- two within reach are as far apart from the corner as from 0
pub apart-corner : (a b : ℤ) → nat_abs a ≤ reach → nat_abs b ≤ reach → between (from_corner a) (from_corner b) ≡ apart a b
unfolding from_corner
apart-corner (pos a) (pos b) ha hb = omega (arith, apart-pos a b)
apart-corner (pos a) (negsuc b) ha hb = omega arith
apart-corner (negsuc a) (pos b) ha hb = omega (arith, apart-neg (suc a) b)
apart-corner (negsuc a) (negsuc b) ha hb =
    omega (arith, ap nat_abs (sym (neg_ℤ-+ℤ (pos (suc a)) (negsuc b))) ∙ nat_abs-neg (pos (suc a) -ℤ pos (suc b)) ∙ apart-pos (suc a) (suc b))

pub signed-corner : (s : Bool) (n : ℕ) → n ≤ reach → from_corner (signed s n) ≡ cond s (reach - n) (reach + n)
unfolding from_corner
signed-corner false n h = refl
signed-corner true zero h = refl
signed-corner true (suc n) h = refl

pub corner-near : (a : ℤ) → nat_abs a ≤ reach → from_corner a ≤ 2 * reach
unfolding from_corner
corner-near (pos a) h = omega arith
corner-near (negsuc a) h = omega arith
