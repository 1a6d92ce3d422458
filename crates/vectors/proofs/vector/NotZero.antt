-- The claims of scaled vectors: one is not all zeros, `normalize_or_zero` says where it gives zeros, and a zero vector dotted with itself is +0.
-- A finite length is at most 2 ^ 64, so its reciprocal is at least 2 ^ -64. A component whose product with that is a zero is below 2 ^ -85 in size,
-- so its square is a zero too. If all three components were so, the length would be zero, and its reciprocal infinite.
use mathlib.Core.Path.{◌≡◌, refl, sym, ap, ◌∙◌, subst}
use mathlib.Core.Bool.{Bool, true, false, ◌&&◌, cond, true≢false, false≢true}
use Prim.Native.Nat.{ℕ, zero, suc, ◌+◌, ◌-◌, ◌*◌, ◌/◌, ◌%◌, ◌^◌, ◌≤◌, ◌<◌, zero-le, compare}
use native.Mathlib.Nat.{le_trans, le_of_eq, le_of_lt, lt_of_lt_of_le, lt_of_le_of_lt, not-le_of_lt, zero-lt-suc, pos_of_ne-zero, zero-mul, one-mul, mul_assoc, mul_right_comm, mul-mul-mul_comm, mul-pos, mul-le-mul, mul-le-mul_left, mul-le-mul_right, le_of_mul-le-mul_right, lt_of_mul-lt-mul_right, eq_of_mul-eq-mul_right, div-eq_of_lt, div-lt_iff_lt-mul, div-div-eq-div-mul}
use native.Mathlib.Omega.{arith}
use lib.IntN.{pos, negsuc}
use lib.Dec.{T, ltb, eqb, lt→ltb, lit≤}
use lib.Pow.{pow_pos, pow_mono, shl_lt}
use lib.Ieee.{Float, nan, inf, fin, binary32, unlike, up, down, size, odd, units, round, add, mul, div, lt, le, eq, fits, of_bits}
use lib.Ieee.Digits.{size-lt, size_reaches}
use lib.Ieee.Exact.{HasValue, odd_sign}
use lib.Ieee.Fits.{up_pos, down_pos, add-fits, round_is}
use lib.Ieee.Nearest.{closest, closest_mono, nearest-ge}
use lib.Ieee.Order.{round_mono}
use lib.Ieee.Positive.{num, den, positive, first_pos, le→cross}
use borrow.Author.Tests.{ltb-true, eqb-false}
use Rattle.std.specs.Prelude.{Option, Some, None}
use Rattle.vectors.specs.declared.Vec3.{Vec3}
use Rattle.vectors.specs.Number.{◌⊕◌, ◌⊗◌, ◌⊘◌, ◌>ᶠ◌, one, zero as zero32, finite}
use Rattle.vectors.specs.Root.{root, nearest_root}
use Rattle.vectors.specs.Vec3.{zero_vec, ◌*ᵥ◌, dot, length_recip, normalize_or_zero, vector_of, is_zeros, all_zero}
use Rattle.vectors.specs.Claims.{ScaledNotZero, NormalizedZeros, ZeroDot}
use Rattle.vectors.proofs.Truth.{no_truth, both}
use Rattle.vectors.proofs.root.Binary.{whole_part, half_power, root-parts, root-bounds, above_zero, zero-value}
use Rattle.vectors.proofs.root.Nearest.{parts-of}

-- ---- which fractions round to a zero

none_kept : (s : Bool) (q k : ℕ) → eq (units binary32 s q k) zero32 ≡ true → q ≡ 0
unfolding units
none_kept s q k e = go (ltb (q * 2 ^ k) (2 ^ 277)) e
  where
    go : (b : Bool) → eq (cond b (odd 25 s q k 149) (inf s)) zero32 ≡ true → q ≡ 0
    go true z =
        let none : q * 2 ^ k ≡ 0 = zero-value (odd 25 s q k 149) s (q * 2 ^ k) (2 ^ 149) (odd_sign 25 s q k 149) z in
        eq_of_mul-eq-mul_right (2 ^ k) (pow_pos k) q 0 (none ∙ sym (zero-mul (2 ^ k)))
    go false z = no_truth (unfold eq of_bits in z)

-- of a number's digits some are kept, so only zero has none
all-dropped : (w : ℕ) → w < 2 ^ (size w - 24) → w < 1
all-dropped w h = go (size w) (size-lt w) (size_reaches w) h
  where
    go : (z : ℕ) → w < 2 ^ z → ((j : ℕ) → j < z → 2 ^ j ≤ w) → w < 2 ^ (z - 24) → w < 1
    go zero most reached few = most
    go (suc z) most reached few = absurd (not-le_of_lt few (reached (suc z - 24) (omega arith)))

-- what rounds to a zero is below the smallest value
below-smallest : (s : Bool) (a c : ℕ) → 0 < c → eq (round binary32 s a c) zero32 ≡ true → a * 2 ^ 149 < c
below-smallest s a c C e =
    let n = a * 2 ^ 149 in
    let k = size (n / c) - 24 in
    let u = c * 2 ^ k in
    let kept : closest n u ≡ 0 = none_kept s (closest n u) k (ap (λ (x : Float). eq x zero32) (sym (round_is binary32 s a c)) ∙ e) in
    let whole : n / u ≤ 0 = le_trans (nearest-ge (n / u) (compare (n % u * 2) u)) (le_of_eq kept) in
    let cut : n / c / 2 ^ k ≤ 0 = le_trans (le_of_eq (div-div-eq-div-mul n c (2 ^ k))) whole in
    let few : n / c < 1 * 2 ^ k = (div-lt_iff_lt-mul (pow_pos k)).0 (lt_of_le_of_lt cut (pow_pos 0)) in
    let none : n < 1 * c = (div-lt_iff_lt-mul C).0 (all-dropped (n / c) (lt_of_lt_of_le few (le_of_eq (one-mul (2 ^ k))))) in
    lt_of_lt_of_le none (le_of_eq (one-mul c))

-- a quarter of the smallest value rounds to a zero, and so does what is below it
quarter-smallest : (s : Bool) (a c : ℕ) → 0 < c → a * 2 ^ 151 ≤ c → round binary32 s a c ≡ fin s 0 (pos 0)
unfolding units size
quarter-smallest s a c C h =
    let n = a * 2 ^ 149 in
    let small : n * 4 ≤ c = le_trans (le_of_eq (mul_assoc a (2 ^ 149) 4)) h in
    let kept : closest n (c * 1) ≡ 0 = eq-zero-of-le (closest_mono n (c * 1) 1 4 (mul-pos C (pow_pos 0)) (pow_pos 2) (quarter n c small)) in
    round_is binary32 s a c
    ∙ ap (λ (w : ℕ). units binary32 s (closest n (c * 2 ^ (size w - 24))) (size w - 24)) (div-eq_of_lt (less n c C small))
    ∙ ap (λ (q : ℕ). units binary32 s q 0) kept
  where
    less : (n c : ℕ) → 0 < c → n * 4 ≤ c → n < c
    less n c C h = omega arith

    quarter : (n c : ℕ) → n * 4 ≤ c → n * 4 ≤ 1 * (c * 1)
    quarter n c h = omega arith

    eq-zero-of-le : {q : ℕ} → q ≤ 0 → q ≡ 0
    eq-zero-of-le {q} h = omega arith

-- ---- a component

-- the component is a / c in size and its factor b / d: where the factor is 1 / u at least, and the product below 1 / (t * u), the component is below 1 / t
under : (a c b d t u : ℕ) → d ≤ b * u → a * b * (t * u) < c * d → a * t < c
under a c b d t u h l =
    lt_of_mul-lt-mul_right (b * u) (lt_of_le_of_lt (le_of_eq (mul-mul-mul_comm a t b u)) (lt_of_lt_of_le l (mul-le-mul_left c h)))

squared : (a c t : ℕ) → a * t < c → a * a * (t * t) ≤ c * c
squared a c t h = le_trans (le_of_eq (mul-mul-mul_comm a a t t)) (mul-le-mul (le_of_lt h) (le_of_lt h))

-- r is finite, and 2 ^ -64 at least
abbrev AtLeast : Float → Type 0
AtLeast r = T (positive r) × (den r ≤ num r * 2 ^ 64)

square-sign : (s : Bool) → unlike s s ≡ false
square-sign true = refl
square-sign false = refl

square-vanishes : (r x : Float) → AtLeast r → eq (x ⊗ r) zero32 ≡ true → x ⊗ x ≡ zero32
unfolding mul of_bits
square-vanishes nan x h z = absurd h.0
square-vanishes (inf t) x h z = absurd h.0
square-vanishes (fin true n d) x h z = absurd h.0
square-vanishes (fin false n d) nan h z = no_truth (unfold eq in z)
square-vanishes (fin false n d) (inf s) h z = go (eqb n 0) z
  where
    go : (b : Bool) → eq (cond b nan (inf (unlike s false))) zero32 ≡ true → inf (unlike s s) ≡ zero32
    go true z = no_truth (unfold eq in z)
    go false z = no_truth (unfold eq in z)
square-vanishes (fin false n d) (fin s m e) h z =
    let a = m * up e in
    let b = n * up d in
    let c = down e in
    let product : a * b * 2 ^ 149 < c * down d = below-smallest (unlike s false) (a * b) (c * down d) (mul-pos (down_pos e) (down_pos d)) z in
    let small : a * 2 ^ 85 < c = under a c b (down d) (2 ^ 85) (2 ^ 64) h.1 product in
    let square : a * a * 2 ^ 151 ≤ c * c = le_trans (mul-le-mul_left (a * a) (lit≤ tt)) (squared a c (2 ^ 85) small) in
    quarter-smallest (unlike s s) (a * a) (c * c) (mul-pos (down_pos e) (down_pos e)) square ∙ ap (λ (t : Bool). fin t 0 (pos 0)) (square-sign s)

-- ---- the reciprocal of a length

above-is-positive : (r : Float) → finite r ≡ true → (r >ᶠ zero32) ≡ true → T (positive r)
unfolding finite lt of_bits
above-is-positive nan f h = no_truth f
above-is-positive (inf s) f h = no_truth f
above-is-positive (fin true m e) f h = no_truth h
above-is-positive (fin false m e) f h =
    lt→ltb 0 m (first_pos m (up e) (first_pos (m * up e) 1 (lt_of_le_of_lt zero-le (ltb-true (0 * down e) (m * up e * 1) h))))

-- a root is 2 ^ 64 at most
root-most : (x : Float) → T (fits binary32 x) → lt zero32 x ≡ true → finite x ≡ true → (n : ℕ) × HasValue (root x) false n (2 ^ 149) × (n ≤ 2 ^ 213)
root-most x h above ends =
    let (q, p, parts) = parts-of x h above ends in
    let r = nearest_root (whole_part q p) in
    let k = half_power p in
    let r-in = root-bounds q p parts.q-least parts.q-most in
    let room : 24 + k ≤ 213 = omega (arith, parts.p-most) in (
      r * 2 ^ k,
      subst (λ (y : Float). HasValue y false (r * 2 ^ k) (2 ^ 149)) (sym (root-parts x q p parts)) (odd_sign 24 false r k 149),
      le_of_lt (lt_of_lt_of_le (shl_lt 24 k r-in.1) (pow_mono room)),
    )

-- a / c is n / t, and n is u * t at most
scaled-down : (a c n t u : ℕ) → 0 < t → a * t ≡ n * c → n ≤ u * t → a ≤ u * c
scaled-down a c n t u P e h = le_of_mul-le-mul_right (le_trans (le_of_eq e) (le_trans (mul-le-mul_right c h) (le_of_eq (mul_right_comm u t c)))) P

-- the reciprocal of what is 2 ^ 64 at most is 2 ^ -64 at least
recip-least : (y : Float) (n : ℕ) → HasValue y false n (2 ^ 149) → n ≤ 2 ^ 213 → T (le (fin false 1 (negsuc 63)) (one ⊘ y))
unfolding div of_bits
recip-least nan n v h = absurd v
recip-least (inf s) n v h = absurd v
recip-least (fin true m e) n v h = absurd (true≢false v.0)
recip-least (fin false m e) n v h = go (eqb m 0) refl
  where
    shape : (a c : ℕ) → a ≤ 2 ^ 64 * c → 1 * (a * 1) ≤ 1 * c * 2 ^ 64
    shape a c l = omega arith

    go : (b : Bool) → eqb m 0 ≡ b → T (le (fin false 1 (negsuc 63)) (cond b (inf false) (round binary32 false (1 * down e) (m * up e * 1))))
    go true z = unfold le in tt
    go false z =
        let m-pos : 0 < m = pos_of_ne-zero (eqb-false m 0 z) in
        subst (λ (x : Float). T (le x (round binary32 false (1 * down e) (m * up e * 1)))) (unfold round in refl)
        (round_mono binary32 1 (2 ^ 64) (1 * down e) (m * up e * 1) (pow_pos 64) (mul-pos (mul-pos m-pos (up_pos e)) (pow_pos 0))
        (shape (m * up e) (down e) (scaled-down (m * up e) (down e) n (2 ^ 149) (2 ^ 64) (pow_pos 149) v.1 h)))

-- what has a root whose reciprocal is finite and above zero is so itself
recip-tells : (d : Float) → finite (one ⊘ root d) ≡ true → (one ⊘ root d >ᶠ zero32) ≡ true → (lt zero32 d ≡ true) × (finite d ≡ true)
unfolding finite lt div root of_bits
recip-tells nan f g = no_truth f
recip-tells (inf true) f g = no_truth f
recip-tells (inf false) f g = no_truth g
recip-tells (fin s zero e) f g = no_truth f
recip-tells (fin true (suc m) e) f g = no_truth f
recip-tells (fin false (suc m) e) f g = above_zero (fin false (suc m) e) (suc m * up e) (down e) (mul-pos (zero-lt-suc m) (up_pos e)) (refl, refl)

length-recip-least : (d : Float) → T (fits binary32 d) → finite (one ⊘ root d) ≡ true → (one ⊘ root d >ᶠ zero32) ≡ true → AtLeast (one ⊘ root d)
length-recip-least d h f g =
    let told = recip-tells d f g in
    let (n, v, n-most) = root-most d h told.0 told.1 in
    let r = one ⊘ root d in
    let r-pos = above-is-positive r f g in
    (r-pos, le_trans (le_of_eq (sym (one-mul (den r)))) (le→cross (fin false 1 (negsuc 63)) r tt r-pos (recip-least (root d) n v n-most)))

-- ---- vectors

zero-parts : (v : Vec3) → all_zero v ≡ true → (eq v.x zero32 ≡ true) × (eq v.y zero32 ≡ true) × (eq v.z zero32 ≡ true)
zero-parts v e =
    let (xy-zero, z-zero) = both (eq v.x zero32 && eq v.y zero32) (eq v.z zero32) e in
    let (x-zero, y-zero) = both (eq v.x zero32) (eq v.y zero32) xy-zero in
    (x-zero, y-zero, z-zero)

no_length : finite (one ⊘ root (zero32 ⊕ zero32 ⊕ zero32)) ≡ false
unfolding finite div root add of_bits
no_length = refl

zero-squares : (v : Vec3) (r : Float) → AtLeast r → all_zero (v *ᵥ r) ≡ true → dot v v ≡ zero32 ⊕ zero32 ⊕ zero32
unfolding dot ◌*ᵥ◌
zero-squares v r least e =
    let (x-zero, y-zero, z-zero) = zero-parts (v *ᵥ r) e in
    rw (square-vanishes r v.x least x-zero, square-vanishes r v.y least y-zero, square-vanishes r v.z least z-zero)

pub scaled-not-zero : ScaledNotZero
unfolding length_recip
scaled-not-zero v ends above = go (all_zero (v *ᵥ length_recip v)) refl
  where
    go : (b : Bool) → all_zero (v *ᵥ length_recip v) ≡ b → b ≡ false
    go true e =
        let least = length-recip-least (dot v v) (unfold dot in add-fits binary32 _ _) ends above in
        let squares = zero-squares v (length_recip v) least e in
        absurd (false≢true (sym no_length ∙ ap (λ (d : Float). finite (one ⊘ root d)) (sym squares) ∙ ends))
    go false e = refl

pub normalized-zeros : NormalizedZeros
unfolding normalize_or_zero
normalized-zeros v = go (finite (length_recip v)) refl (length_recip v >ᶠ zero32) refl
  where
    scale : Float
    scale = length_recip v

    given : Bool → Option Vec3
    given b = cond b (Some (v *ᵥ scale)) None

    go : (a : Bool) → finite scale ≡ a → (b : Bool) → (scale >ᶠ zero32) ≡ b → is_zeros (given (a && b)) ≡ all_zero (vector_of (given (a && b)))
    go true ends true above = sym (scaled-not-zero v ends above)
    go true ends false above = unfold zero_vec eq of_bits in refl
    go false ends b above = unfold zero_vec eq of_bits in refl

square-of-zero : (x : Float) → eq x zero32 ≡ true → x ⊗ x ≡ zero32
unfolding mul of_bits
square-of-zero nan z = no_truth (unfold eq in z)
square-of-zero (inf s) z = no_truth (unfold eq in z)
square-of-zero (fin s m e) z =
    let a = m * up e in
    let c = down e in
    let none : a ≡ 0 = zero-value (fin s m e) s a c (refl, refl) z in
    let square : a * a * 2 ^ 151 ≤ c * c = subst (λ (n : ℕ). n * n * 2 ^ 151 ≤ c * c) (sym none) (le_trans (le_of_eq (zero-mul (2 ^ 151))) zero-le) in
    quarter-smallest (unlike s s) (a * a) (c * c) (mul-pos (down_pos e) (down_pos e)) square ∙ ap (λ (t : Bool). fin t 0 (pos 0)) (square-sign s)

pub zero-dot : ZeroDot
unfolding dot add of_bits
zero-dot v e =
    let (x-zero, y-zero, z-zero) = zero-parts v e in
    rw (square-of-zero v.x x-zero, square-of-zero v.y y-zero, square-of-zero v.z z-zero)
