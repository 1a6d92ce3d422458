-- From a bit pattern to whole millimetres: what its fields say, and that a position within reach is at most 16,384,000 from 0.
use mathlib.Core.Path.{◌≡◌, refl, sym, ap, ◌∙◌, subst}
use mathlib.Core.Bool.{Bool, true, false, cond, not, ◌||◌}
use denote.Floats.{passes}
use Prim.Native.Nat.{ℕ, zero, suc, ◌+◌, ◌-◌, ◌*◌, ◌/◌, ◌%◌, ◌^◌, ◌≤◌, ◌<◌}
use native.Mathlib.Nat.{mul_assoc, mul-one, mul_right_comm, mul-le-mul_right, eq_of_mul-eq-mul_right, le_of_mul-le-mul_right, lt_irrefl, lt_of_lt_of_le, le_trans, le_of_eq, lt_of_not-le, not-le_of_lt}
use native.Mathlib.Omega.{arith}
use lib.IntN.{nat_abs}
use lib.Dec.{T, leb, ltb, eqb, ltb→lt, nltb→le}
use lib.Pow.{pow_pos, pow-add, pow-lt, pow_mono}
use lib.Ieee.{Float, nan, inf, fin, binary32, up, down, odd, lt, fits, is_nan, of_fields, of_bits}
use lib.Ieee.Bits.{of_bits-to_bits}
use lib.Ieee.Exact.{HasValue, odd_sign}
use lib.Ieee.Fits.{down_pos}
use lib.Ieee.Nearest.{closest, closest_same, closest_mono}
use borrow.Author.Tests.{le-leb, lt-leb, ne_eqb, ltb-false}
use Rattle.vectors.specs.Number.{of_word, to_word}
use Rattle.spacing.specs.Millimetres.{signed, whole_nearest, millimetres}
use Rattle.spacing.specs.parts.Millimetres.{reach, units_in, size_of, from_corner}
use Rattle.spacing.specs.Frame.{out_of_reach}
use Rattle.spacing.proofs.WholeNumbers.{nat_abs-signed, signed-corner}

-- the millimetres of a number that is n / d, with the sign s
pub by_value : (x : Float) (s : Bool) (n d : ℕ) → 0 < d → HasValue x s n d → millimetres x ≡ signed s (closest (1000 * n) d)
unfolding millimetres whole_nearest
by_value nan s n d p v = absurd v
by_value (inf t) s n d p v = absurd v
by_value (fin t m e) s n d p v =
    let same : 1000 * (m * up e) * d ≡ 1000 * n * down e = omega (arith, mul_assoc 1000 (m * up e) d, mul_assoc 1000 n (down e)) in
    rw (v.0, closest_same (1000 * (m * up e)) (down e) (1000 * n) d (down_pos e) p same)

-- ---- patterns

fields_value : (s : Bool) (f t : ℕ) → f < 255 → HasValue (of_fields binary32 s f t) s (units_in f t) (2 ^ 149)
unfolding of_fields units_in
fields_value s zero t h = subst (λ (n : ℕ). HasValue (odd 24 s t 0 149) s n (2 ^ 149)) (mul-one t) (odd_sign 24 s t 0 149)
fields_value s (suc f) t h =
    rw (ne_eqb (suc f) 255 (λ e. lt_irrefl 255 (subst (λ (n : ℕ). n < 255) e h))) (odd_sign 24 s (2 ^ 23 + t) f 149)

-- ---- within reach

neither : (a b : Bool) → (a || b) ≡ false → (a ≡ false) × (b ≡ false)
neither true b e = cc
neither false b e = (refl, e)

-- a number within reach is finite, and at most 16384 in size
within-value : (x : Float) → out_of_reach x ≡ false → (s : Bool) × (n : ℕ) × (d : ℕ) × (0 < d) × (n ≤ 16384 * d) × HasValue x s n d
unfolding out_of_reach lt of_bits
within-value nan h = cc
within-value (inf s) h = cc
within-value (fin false m e) h =
    let most = ltb-false (16384 * down e) (m * up e * 1) (neither _ _ h).0 in
    (false, m * up e, down e, down_pos e, omega (arith, most), (refl, refl))
within-value (fin true m e) h =
    let most = ltb-false (16384 * down e) (m * up e * 1) h in
    (true, m * up e, down e, down_pos e, omega (arith, most), (refl, refl))

-- ---- patterns within reach

-- two fractions of one number
cross : (x : Float) (s t : Bool) (n d a c : ℕ) → HasValue x s n d → HasValue x t a c → n * c ≡ a * d
cross nan s t n d a c v w = absurd v
cross (inf u) s t n d a c v w = absurd v
cross (fin u m e) s t n d a c v w =
    eq_of_mul-eq-mul_right (down e) (down_pos e) (n * c) (a * d)
    (mul_right_comm n c (down e)
    ∙ ap (λ (k : ℕ). k * c) (sym v.1)
    ∙ mul_right_comm (m * up e) d c
    ∙ ap (λ (k : ℕ). k * d) w.1
    ∙ mul_right_comm a (down e) d)

-- 2 ^ 23 or more units of at least 2 ^ 141 are over 16384
few-places : (f t : ℕ) → units_in f t ≤ 16384 * 2 ^ 149 → f ≤ 141
unfolding units_in
few-places zero t h = omega arith
few-places (suc x) t h = let small : suc x < 142 = lt_of_not-le (λ (l : 142 ≤ suc x). not-le_of_lt (over x t l) h) in omega arith
  where
    over : (x t : ℕ) → 142 ≤ suc x → 16384 * 2 ^ 149 < (2 ^ 23 + t) * 2 ^ x
    over x t l =
        let least : 2 ^ 23 ≤ 2 ^ 23 + t = omega arith in
        lt_of_lt_of_le (pow-lt {i = 163} {j = 164} (omega arith))
        (le_trans (pow_mono {i = 164} {j = 23 + x} (omega arith))
        (le_trans (le_of_eq (pow-add 2 23 x)) (mul-le-mul_right (2 ^ x) least)))

not_finite : (s : Bool) (t : ℕ) → out_of_reach (of_fields binary32 s 255 t) ≡ true
unfolding of_fields out_of_reach
not_finite s t = go (eqb t 0)
  where
    go : (b : Bool) → out_of_reach (cond b (inf s) nan) ≡ true
    go true = refl
    go false = refl

fields_within : (s : Bool) (f t : ℕ) → f < 256 → out_of_reach (of_fields binary32 s f t) ≡ false → f ≤ 141
fields_within s f t l h = go (ltb f 255) (ltb→lt f 255) (nltb→le f 255)
  where
    go : (b : Bool) → (T b → f < 255) → (T (not b) → 255 ≤ f) → f ≤ 141
    go true below above =
        let v = within-value (of_fields binary32 s f t) h in
        let n = v.1 in
        let d = v.2 in
        let same : units_in f t * d ≡ n * 2 ^ 149 = cross (of_fields binary32 s f t) s v.0 (units_in f t) (2 ^ 149) n d (fields_value s f t (below tt)) v.5 in
        let least : n * 2 ^ 149 ≤ 16384 * d * 2 ^ 149 = mul-le-mul_right (2 ^ 149) v.4 in
        few-places f t (le_of_mul-le-mul_right {m = units_in f t} {n = 16384 * 2 ^ 149} {k = d} (le_trans (le_of_eq same) (le_trans least (le_of_eq (mul_right_comm 16384 d (2 ^ 149))))) v.3)
    go false below above =
        let is : f ≡ 255 = omega (arith, above tt) in
        let out : false ≡ true = sym h ∙ ap (λ (g : ℕ). out_of_reach (of_fields binary32 s g t)) is ∙ not_finite s t in
        cc

word-within : (word : ℕ) → out_of_reach (of_word word) ≡ false → word % 2 ^ 31 / 2 ^ 23 ≤ 141
unfolding of_bits
word-within word h = fields_within (leb (2 ^ 31) word) (word % 2 ^ 31 / 2 ^ 23) (word % 2 ^ 23) (omega arith) h

word_size : (word : ℕ) → out_of_reach (of_word word) ≡ false → millimetres (of_word word) ≡ signed (leb (2 ^ 31) word) (size_of (word % 2 ^ 31))
unfolding of_bits size_of whole_nearest
word_size word h =
    let same : word % 2 ^ 31 % 2 ^ 23 ≡ word % 2 ^ 23 = omega arith in
    let few = word-within word h in
    by_value (of_word word) (leb (2 ^ 31) word) (units_in (word % 2 ^ 31 / 2 ^ 23) (word % 2 ^ 23)) (2 ^ 149) (pow_pos 149) (fields_value (leb (2 ^ 31) word) (word % 2 ^ 31 / 2 ^ 23) (word % 2 ^ 23) (omega arith))
    ∙ ap (λ (t : ℕ). signed (leb (2 ^ 31) word) (closest (1000 * units_in (word % 2 ^ 31 / 2 ^ 23) t) (2 ^ 149))) (sym same)

pub within-size : (x : Float) → out_of_reach x ≡ false → nat_abs (millimetres x) ≤ reach
within-size x h =
    let v = within-value x h in
    let n = v.1 in
    let d = v.2 in
    let most : closest (1000 * n) d ≤ closest 16384000 1 = closest_mono (1000 * n) d 16384000 1 v.3 (omega arith) (omega (arith, v.4, mul-one (1000 * n))) in
    omega (arith, ap nat_abs (by_value x v.0 n d v.3 v.5) ∙ nat_abs-signed v.0 (closest (1000 * n) d), most)

-- ---- a number within reach, by the pattern that it has

module _ (x : Float) (whole : fits binary32 x ≡ true) (within : out_of_reach x ≡ false) where
  pub no_nan : T (not (is_nan x))
  unfolding out_of_reach is_nan
  no_nan = go x within
    where
      go : (x : Float) → out_of_reach x ≡ false → T (not (is_nan x))
      go nan h = cc
      go (inf s) h = tt
      go (fin s m e) h = tt

  same : of_word (to_word x) ≡ x
  same = of_bits-to_bits binary32 x (passes _ whole)

  word-reads : out_of_reach (of_word (to_word x)) ≡ false
  word-reads = ap out_of_reach same ∙ within

  abbrev size-read : ℕ
  size-read = size_of (to_word x % 2 ^ 31)

  pub pattern-most : to_word x % 2 ^ 31 / 2 ^ 23 ≤ 141
  pattern-most = word-within (to_word x) word-reads

  by_size : millimetres x ≡ signed (leb (2 ^ 31) (to_word x)) size-read
  by_size = sym (ap millimetres same) ∙ word_size (to_word x) word-reads

  pub size-near : size-read ≤ reach
  size-near = omega (arith, within-size x within, ap nat_abs by_size ∙ nat_abs-signed (leb (2 ^ 31) (to_word x)) size-read)

  -- from the corner, where the pattern's sign is s
  placed : (s : Bool) → leb (2 ^ 31) (to_word x) ≡ s → from_corner (millimetres x) ≡ cond s (reach - size-read) (reach + size-read)
  placed s is = ap from_corner (by_size ∙ ap (λ (b : Bool). signed b size-read) is) ∙ signed-corner s size-read size-near

  pub corner-above : to_word x < 2 ^ 31 → from_corner (millimetres x) ≡ reach + size-read
  corner-above h = placed false (lt-leb (2 ^ 31) (to_word x) h)

  pub corner-below : 2 ^ 31 ≤ to_word x → from_corner (millimetres x) ≡ reach - size-read
  corner-below h = placed true (le-leb (2 ^ 31) (to_word x) h)

pub ruleset pattern_steps = (no_nan, pattern-most, size-near, corner-above, corner-below)
