-- The claims of the root, for every binary32: that of a positive number is the nearest, and no other number is; and those of the other arguments.
use mathlib.Core.Path.{◌≡◌, refl, sym, ap, ◌∙◌, subst}
use mathlib.Core.Bool.{Bool, true, false, not, true≢false, false≢true}
use Prim.Native.Nat.{ℕ, zero, suc, ◌+◌, ◌-◌, ◌*◌, ◌/◌, ◌%◌, ◌^◌, ◌≤◌, ◌<◌, zero-le}
use native.Mathlib.Nat.{le_of_lt, lt_of_lt_of_le, mul-pos, mul-div_cancel, zero-mul, one-le-pow, zero-lt-suc}
use native.Mathlib.Omega.{arith}
use lib.Dec.{T, ltb, ltb→lt, nltb→le}
use lib.Pow.{pow_pos, pow_mono, shl_lt}
use lib.Ieee.{Float, nan, inf, fin, binary32, up, down, size, odd, lt, eq, div, fits, of_bits, to_bits}
use lib.Ieee.Bits.{of_bits-to_bits}
use lib.Ieee.Exact.{HasValue, odd_sign}
use lib.Ieee.Fits.{up_pos, down_pos, odd-fits}
use borrow.Author.Tests.{le-ltb}
use Rattle.vectors.specs.Number.{of_word, to_word, finite, ◌⊘◌, one, zero as zero32}
use Rattle.vectors.specs.Root.{root, nearest_root}
use Rattle.vectors.specs.Claims.{RootNearest, RootOnly, RootOfZero, RootOfInfinity, RootOfNegative, RootOfNan}
use Rattle.vectors.specs.parts.Root.{Parts}
use Rattle.vectors.proofs.root.Whole.{nearest-near, nearest-only, near-says, near_of}
use Rattle.vectors.proofs.root.Binary.{whole_part, half_power, split-power, whole-bounds, root-bounds, root-parts, root-scaled, positive-word, above_zero, zero-value, normal-parts, subnormal-parts, shift_of}

-- ---- the parts of any positive finite binary32

finite-below : (x : Float) → lt zero32 x ≡ true → finite x ≡ true → lt x (one ⊘ zero32) ≡ true
unfolding lt div of_bits finite
finite-below nan h g = g
finite-below (inf s) h g = absurd (false≢true g)
finite-below (fin s m e) h g = refl

pub parts-of : (x : Float) → T (fits binary32 x) → lt zero32 x ≡ true → finite x ≡ true → (q : ℕ) × (p : ℕ) × Parts x q p
parts-of x h above ends =
    let word = positive-word x h above (finite-below x above ends) in
    let back = of_bits-to_bits binary32 x h in
    go (to_word x) back word.0 word.1
  where
    go : (w : ℕ) → of_word w ≡ x → 0 < w → w < 0x7F80_0000 → (q : ℕ) × (p : ℕ) × Parts x q p
    go w e lo hi = side (ltb w (2 ^ 23)) (ltb→lt w (2 ^ 23)) (nltb→le w (2 ^ 23))
      where
        side : (b : Bool) → (T b → w < 2 ^ 23) → (T (not b) → 2 ^ 23 ≤ w) → (q : ℕ) × (p : ℕ) × Parts x q p
        side true small large = (w * 2 ^ shift_of w, 149 - shift_of w, subst (λ (v : Float). Parts v (w * 2 ^ shift_of w) (149 - shift_of w)) e (subnormal-parts w lo (small tt)))
        side false small large = (2 ^ 23 + w % 2 ^ 23, 148 + w / 2 ^ 23, subst (λ (v : Float). Parts v (2 ^ 23 + w % 2 ^ 23) (148 + w / 2 ^ 23)) e (normal-parts w (large tt) hi))

-- ---- the root meets the statement

root-fits : (x : Float) (q p : ℕ) → Parts x q p → T (fits binary32 (root x))
root-fits x q p parts =
    let r-in = root-bounds q p parts.q-least parts.q-most in
    let r = nearest_root (whole_part q p) in
    let room : 24 + half_power p ≤ 277 = omega (arith, parts.p-most) in
    subst (λ (y : Float). T (fits binary32 y)) (sym (root-parts x q p parts))
    (odd-fits binary32 24 false r (half_power p) r-in.1 (le_of_lt r-in.1) (lt_of_lt_of_le (shl_lt 24 (half_power p) r-in.1) (pow_mono room)))

pub root-nearest : RootNearest
root-nearest x h above ends =
    let found = parts-of x h above ends in
    let q = found.0 in
    let p = found.1 in
    let parts = found.2 in
    let a = whole_part q p in
    let k = half_power p in
    let a_in = whole-bounds q p parts.q-least parts.q-most in
    let r-in = root-bounds q p parts.q-least parts.q-most in
    let near = nearest-near a (omega (arith, a_in)) (omega (arith, a_in)) in
    let says = near-says a (nearest_root a) (omega (arith, r-in)) near in (
      root-fits x q p parts,
      record {
        a = a;
        k = k;
        r = nearest_root a;
        argument = subst (λ (n : ℕ). HasValue x false n (4 ^ 149)) (split-power q p parts.p-least) parts.value;
        a-least = a_in.0;
        a-most = omega (arith, a_in);
        result = subst (λ (y : Float). HasValue y false (nearest_root a * 2 ^ k) (2 ^ 149)) (sym (root-parts x q p parts)) (odd_sign 24 false (nearest_root a) k 149);
        r-least = r-in.0;
        r-most = r-in.1;
        above = says.0;
        below = says.1;
      },
    )

-- ---- nothing else does

-- a pattern is written from the value alone
word-of-units : (x : Float) (n : ℕ) → HasValue x false n (2 ^ 149) → to_word x ≡ 0 + (size n - 24) * 2 ^ 23 + n / 2 ^ (size n - 24)
unfolding to_bits
word-of-units nan n v = absurd v
word-of-units (inf s) n v = absurd v
word-of-units (fin true m e) n v = absurd (true≢false v.0)
word-of-units (fin false m e) n v =
    ap (λ (u : ℕ). 0 + (size u - 24) * 2 ^ 23 + u / 2 ^ (size u - 24)) (ap (λ (u : ℕ). u / down e) v.1 ∙ mul-div_cancel n (down_pos e))

same-value : (x y : Float) (n : ℕ) → T (fits binary32 x) → T (fits binary32 y) → HasValue x false n (2 ^ 149) → HasValue y false n (2 ^ 149) → x ≡ y
same-value x y n h g v w =
    sym (of_bits-to_bits binary32 x h) ∙ ap of_word (word-of-units x n v ∙ sym (word-of-units y n w)) ∙ of_bits-to_bits binary32 y g

pub root-only : RootOnly
root-only x y h g s =
    let a = s.a in
    let k = s.k in
    let a-pos : 0 < a = lt_of_lt_of_le (pow_pos 46) s.a-least in
    let near = near_of a s.r (lt_of_lt_of_le (pow_pos 23) s.r-least) s.above s.below in
    let r-is : s.r ≡ nearest_root a = nearest-only a s.r a-pos s.a-most near in
    let is : root x ≡ odd 24 false s.r k 149 = root-scaled x a k s.argument s.a-least s.a-most ∙ ap (λ (r : ℕ). odd 24 false r k 149) (sym r-is) in
    let sign = above_zero x (a * 4 ^ k) (4 ^ 149) (mul-pos a-pos (one-le-pow k 4 (zero-lt-suc 3))) s.argument in
    let found = parts-of x h sign.0 sign.1 in
    same-value y (root x) (s.r * 2 ^ k) g (root-fits x found.0 found.1 found.2) s.result
    (subst (λ (v : Float). HasValue v false (s.r * 2 ^ k) (2 ^ 149)) (sym is) (odd_sign 24 false s.r k 149))

-- ---- the other arguments

pub root-of-zero : RootOfZero
unfolding root eq of_bits
root-of-zero nan e = refl
root-of-zero (inf s) e = absurd (false≢true e)
root-of-zero (fin s zero e) h = refl
root-of-zero (fin s (suc m) e) h =
    let some : 0 < suc m * up e = mul-pos (zero-lt-suc m) (up_pos e) in
    absurd (omega (arith, zero-value (fin s (suc m) e) s (suc m * up e) (down e) (refl, refl) h))

pub root-of-infinity : RootOfInfinity
unfolding root
root-of-infinity = refl

pub root-of-nan : RootOfNan
unfolding root
root-of-nan = refl

pub root-of-negative : RootOfNegative
unfolding root lt of_bits
root-of-negative nan h = refl
root-of-negative (inf true) h = refl
root-of-negative (inf false) h = absurd (false≢true h)
root-of-negative (fin true zero e) h = absurd (false≢true (sym (simp zero-mul) ∙ h))
root-of-negative (fin false zero e) h = absurd (false≢true (sym (simp zero-mul) ∙ h))
root-of-negative (fin true (suc m) e) h = refl
root-of-negative (fin false (suc m) e) h = absurd (false≢true (sym (ap (λ (z : ℕ). ltb (suc m * up e * 1) z) (zero-mul (down e)) ∙ le-ltb (suc m * up e * 1) 0 zero-le) ∙ h))
