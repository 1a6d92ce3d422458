-- From the bit patterns of binary32 to document 01's statement: an argument q * 2 ^ p * 4 ^ -149 with q of 24 digits is a * 4 ^ k with a of 47 or 48.
use mathlib.Core.Path.{◌≡◌, refl, sym, ap, ◌∙◌, subst}
use mathlib.Core.Bool.{Bool, true, false, cond, true≢false, false≢true}
use Prim.Native.Nat.{ℕ, zero, suc, ◌+◌, ◌-◌, ◌*◌, ◌/◌, ◌%◌, ◌^◌, ◌≤◌, ◌<◌}
use native.Mathlib.Nat.{le_trans, le_of_eq, lt_of_lt_of_le, lt_of_not-le, not-le_of_lt, lt_irrefl, mul-le-mul_right, mul_assoc, mul_right_comm, mul-one, zero-mul, one-le-pow, zero-lt-suc, mul-pos, mul-div_cancel, mod-eq_of_lt, eq_of_mul-eq-mul_right}
use native.Mathlib.Omega.{arith}
use lib.IntN.{ℤ}
use lib.Dec.{T, leb, eqb}
use lib.Pow.{pow-add, pow_pos, pow_mono, shl_lt}
use lib.Bits.{bit_and, and_mask}
use lib.Count.{count_leading_zeros, leading_top}
use lib.Ieee.{Float, nan, inf, fin, binary32, up, down, size, odd, lt, eq, div, fits, of_fields, of_bits}
use lib.Ieee.Bits.{of_bits-to_bits}
use lib.Ieee.Digits.{size-lt, size-le}
use lib.Ieee.Exact.{HasValue, odd_sign}
use lib.Ieee.Fits.{up_pos, down_pos}
use borrow.Author.Tests.{lt-ltb, le-leb, lt-leb, leb-true, leb-false, eqb-true, ne_eqb}
use Rattle.vectors.specs.Number.{finite, of_word, to_word, zero as zero32, one, ◌⊘◌}
use Rattle.vectors.specs.Root.{root, root_of, nearest_root}
use Rattle.vectors.specs.parts.Root.{Parts}
use Rattle.vectors.proofs.Truth.{both}
use Rattle.vectors.proofs.root.Whole.{four-pow, nearest-near, near-least, near-most}

-- ---- from the parts of an argument to its root

-- the document's a and k, from q and p: p - 23 is 2 * k, or one more
abbrev pub whole_part : ℕ → ℕ → ℕ
whole_part q p = q * 2 ^ (24 - p % 2)

abbrev pub half_power : ℕ → ℕ
half_power p = (p - 23) / 2

four-squared : (k : ℕ) → 4 ^ k ≡ 2 ^ (k + k)
four-squared k = four-pow k ∙ sym (pow-add 2 k k)

pub split-power : (q p : ℕ) → 126 ≤ p → q * 2 ^ p ≡ whole_part q p * 4 ^ half_power p
split-power q p h =
    let k = half_power p in
    ap (λ (x : ℕ). q * 2 ^ x) (sum p h)
    ∙ ap (λ (x : ℕ). q * x) (pow-add 2 (24 - p % 2) (k + k))
    ∙ sym (mul_assoc q (2 ^ (24 - p % 2)) (2 ^ (k + k)))
    ∙ ap (λ (x : ℕ). whole_part q p * x) (sym (four-squared k))
  where
    sum : (p : ℕ) → 126 ≤ p → p ≡ 24 - p % 2 + ((p - 23) / 2 + (p - 23) / 2)
    sum p h = omega arith

-- the document's a without its last 23 digits, which are zeros
abbrev pub even_part : ℕ → ℕ → ℕ
even_part q p = q * 2 ^ (1 - p % 2)

pub even-whole : (q p : ℕ) → even_part q p * 2 ^ 23 ≡ whole_part q p
even-whole q p =
    mul_assoc q (2 ^ (1 - p % 2)) (2 ^ 23) ∙ ap (λ (x : ℕ). q * x) (sym (pow-add 2 (1 - p % 2) 23) ∙ ap (λ (x : ℕ). 2 ^ x) (sum p))
  where
    sum : (p : ℕ) → 1 - p % 2 + 23 ≡ 24 - p % 2
    sum p = omega arith

pub even-most : (q p : ℕ) → q < 2 ^ 24 → even_part q p < 2 ^ 25
even-most q p hi = lt_of_lt_of_le (shl_lt 24 (1 - p % 2) hi) (pow_mono {i = 24 + (1 - p % 2)} {j = 25} (omega arith))

-- a of 47 or 48 digits is what is left of a * 4 ^ k when all but its 47 or 48 leading digits go
root_of-scaled : (a k : ℕ) → 2 ^ 46 ≤ a → a < 2 ^ 48 → root_of (a * 4 ^ k) ≡ odd 24 false (nearest_root a) k 149
unfolding root_of
root_of-scaled a k lo hi =
    let n = a * 4 ^ k in
    let n-is : n ≡ a * 2 ^ (k + k) = ap (λ (x : ℕ). a * x) (four-squared k) in
    let most : size n ≤ 48 + (k + k) = size-le n (48 + (k + k)) (subst (λ (x : ℕ). x < 2 ^ (48 + (k + k))) (sym n-is) (shl_lt 48 (k + k) hi)) in
    let reached : 2 ^ (46 + (k + k)) ≤ n = le_trans (le_of_eq (pow-add 2 46 (k + k))) (le_trans (mul-le-mul_right (2 ^ (k + k)) lo) (le_of_eq (sym n-is))) in
    let least : 46 + (k + k) < size n = lt_of_not-le (λ (few : size n ≤ 46 + (k + k)). not-le_of_lt (lt_of_lt_of_le (size-lt n) (pow_mono few)) reached) in
    let k-is : (size n - 47) / 2 ≡ k = omega arith in
    ap (λ (j : ℕ). odd 24 false (nearest_root (n / 4 ^ j)) j 149) k-is
    ∙ ap (λ (b : ℕ). odd 24 false (nearest_root b) k 149) (mul-div_cancel a (one-le-pow k 4 (zero-lt-suc 3)))

positive : (m : ℕ) (e : ℤ) (n d : ℕ) → 0 < n → m * up e * d ≡ n * down e → 0 < m
positive zero e n d h v = absurd (lt_irrefl 0 (subst (λ (x : ℕ). 0 < x) (sym v ∙ ap (λ (x : ℕ). x * d) (zero-mul (up e)) ∙ zero-mul d) (mul-pos h (down_pos e))))
positive (suc m) e n d h v = zero-lt-suc m

pub root-scaled : (x : Float) (a k : ℕ) → HasValue x false (a * 4 ^ k) (4 ^ 149) → 2 ^ 46 ≤ a → a < 2 ^ 48 → root x ≡ odd 24 false (nearest_root a) k 149
unfolding root
root-scaled nan a k v lo hi = absurd v
root-scaled (inf s) a k v lo hi = absurd v
root-scaled (fin true zero e) a k v lo hi = absurd (true≢false v.0)
root-scaled (fin true (suc m) e) a k v lo hi = absurd (true≢false v.0)
root-scaled (fin false zero e) a k v lo hi =
    absurd (lt_irrefl 0 (positive 0 e (a * 4 ^ k) (4 ^ 149) (mul-pos (lt_of_lt_of_le (pow_pos 46) lo) (one-le-pow k 4 (zero-lt-suc 3))) v.1))
root-scaled (fin false (suc m) e) a k v lo hi =
    ap root_of (ap (λ (x : ℕ). x / down e) v.1 ∙ mul-div_cancel (a * 4 ^ k) (down_pos e)) ∙ root_of-scaled a k lo hi

pub whole-bounds : (q p : ℕ) → 2 ^ 23 ≤ q → q < 2 ^ 24 → (2 ^ 46 ≤ whole_part q p) × (whole_part q p ≤ 2 ^ 48 - 2 ^ 24)
whole-bounds q p lo hi = go (p % 2) (omega arith)
  where
    go : (b : ℕ) → b < 2 → (2 ^ 46 ≤ q * 2 ^ (24 - b)) × (q * 2 ^ (24 - b) ≤ 2 ^ 48 - 2 ^ 24)
    go zero h = (omega arith, omega arith)
    go (suc zero) h = (omega arith, omega arith)
    go (suc (suc b)) h = absurd (omega arith)

pub root-parts : (x : Float) (q p : ℕ) → Parts x q p → root x ≡ odd 24 false (nearest_root (whole_part q p)) (half_power p) 149
root-parts x q p h =
    let b = whole-bounds q p h.q-least h.q-most in
    root-scaled x (whole_part q p) (half_power p) (subst (λ (n : ℕ). HasValue x false n (4 ^ 149)) (split-power q p h.p-least) h.value) b.0 (omega (arith, b))

-- ---- from a bit pattern to the parts

-- a fraction with numerator and denominator multiplied alike
widened : (x : Float) (s : Bool) (a c d : ℕ) → HasValue x s a c → HasValue x s (a * d) (c * d)
widened nan s a c d v = v
widened (inf t) s a c d v = v
widened (fin t m e) s a c d v = (v.0, sym (mul_assoc (m * up e) c d) ∙ ap (λ (x : ℕ). x * d) v.1 ∙ mul_right_comm a (down e) d)

-- a positive pattern below the infinity's is read as its two fields
word_fields : (word : ℕ) → word < 2 ^ 31 → of_word word ≡ of_fields binary32 false (word / 2 ^ 23) (word % 2 ^ 23)
unfolding of_bits
word_fields word h =
    ap (λ (s : Bool). of_fields binary32 s (word % 2 ^ 31 / 2 ^ 23) (word % 2 ^ 23)) (lt-leb (2 ^ 31) word h)
    ∙ ap (λ (x : ℕ). of_fields binary32 false (x / 2 ^ 23) (word % 2 ^ 23)) (mod-eq_of_lt h)

normal-fields : (x t : ℕ) → suc x < 255 → of_fields binary32 false (suc x) t ≡ odd 24 false (2 ^ 23 + t) x 149
unfolding of_fields
normal-fields x t h = rw (ne_eqb (suc x) 255 (λ e. lt_irrefl 255 (subst (λ (y : ℕ). y < 255) e h)))

subnormal-fields : (t : ℕ) → of_fields binary32 false 0 t ≡ odd 24 false t 0 149
unfolding of_fields
subnormal-fields t = refl

pub normal-parts : (word : ℕ) → 2 ^ 23 ≤ word → word < 0x7F80_0000 → Parts (of_word word) (2 ^ 23 + word % 2 ^ 23) (148 + word / 2 ^ 23)
normal-parts word lo hi = record {
  q-least = omega arith;
  q-most = omega arith;
  p-least = omega arith;
  p-most = omega arith;
  value = at (word / 2 ^ 23) refl;
}
  where
    at : (f : ℕ) → word / 2 ^ 23 ≡ f → HasValue (of_word word) false ((2 ^ 23 + word % 2 ^ 23) * 2 ^ (148 + word / 2 ^ 23)) (4 ^ 149)
    at zero e = absurd (omega arith)
    at (suc x) e =
        let q = 2 ^ 23 + word % 2 ^ 23 in
        let is : of_word word ≡ odd 24 false q x 149 = word_fields word (omega arith) ∙ ap (λ (y : ℕ). of_fields binary32 false y (word % 2 ^ 23)) e ∙ normal-fields x (word % 2 ^ 23) (omega arith) in
        let power : q * 2 ^ x * 2 ^ 149 ≡ q * 2 ^ (148 + word / 2 ^ 23) = mul_assoc q (2 ^ x) (2 ^ 149) ∙ ap (λ (y : ℕ). q * y) (sym (pow-add 2 x 149) ∙ ap (λ (y : ℕ). 2 ^ y) (omega arith)) in
        subst (λ (v : Float). HasValue v false (q * 2 ^ (148 + word / 2 ^ 23)) (4 ^ 149)) (sym is)
        (subst (λ (n : ℕ). HasValue (odd 24 false q x 149) false n (4 ^ 149)) power (widened (odd 24 false q x 149) false (q * 2 ^ x) (2 ^ 149) (2 ^ 149) (odd_sign 24 false q x 149)))

-- how far a subnormal's digits are moved up
abbrev pub shift_of : ℕ → ℕ
shift_of word = count_leading_zeros 32 word - 8

pub shift-bounds : (word : ℕ) → 0 < word → word < 2 ^ 23 → (8 ≤ count_leading_zeros 32 word) × (shift_of word < 24)
shift-bounds word lo hi =
    let top = leading_top 32 word lo (omega arith) in
    let j-most : top.0 < 23 = lt_of_not-le (λ g. not-le_of_lt hi (le_trans (pow_mono g) top.2)) in
    (omega (arith, top.1), omega (arith, top.1))

pub subnormal-parts : (word : ℕ) → 0 < word → word < 2 ^ 23 → Parts (of_word word) (word * 2 ^ shift_of word) (149 - shift_of word)
subnormal-parts word lo hi =
    let top = leading_top 32 word lo (omega arith) in
    let bounds = shift-bounds word lo hi in
    let s = shift_of word in
    let s-is : top.0 + s ≡ 23 = omega (arith, top.1, bounds) in
    let s-is' : suc top.0 + s ≡ 24 = omega (arith, top.1, bounds) in
    let is : of_word word ≡ odd 24 false word 0 149 = word_fields word (omega arith) ∙ ap (λ (y : ℕ). of_fields binary32 false y (word % 2 ^ 23)) (omega arith) ∙ subnormal-fields (word % 2 ^ 23) ∙ ap (λ (y : ℕ). odd 24 false y 0 149) (mod-eq_of_lt hi) in
    let whole : 149 ≡ s + (149 - s) = omega (arith, bounds) in
    let power : word * 2 ^ 0 * 2 ^ 149 ≡ word * 2 ^ s * 2 ^ (149 - s) =
    ap (λ (x : ℕ). x * 2 ^ 149) (mul-one word) ∙ ap (λ (x : ℕ). word * x) (ap (λ (x : ℕ). 2 ^ x) whole ∙ pow-add 2 s (149 - s)) ∙ sym (mul_assoc word (2 ^ s) (2 ^ (149 - s))) in
    record {
      q-least = le_trans (le_of_eq (ap (λ (x : ℕ). 2 ^ x) (sym s-is) ∙ pow-add 2 top.0 s)) (mul-le-mul_right (2 ^ s) top.2);
      q-most = subst (λ (x : ℕ). word * 2 ^ s < 2 ^ x) s-is' (shl_lt (suc top.0) s top.3);
      p-least = omega (arith, bounds);
      p-most = omega arith;
      value =
          subst (λ (v : Float). HasValue v false (word * 2 ^ s * 2 ^ (149 - s)) (4 ^ 149)) (sym is)
          (subst (λ (n : ℕ). HasValue (odd 24 false word 0 149) false n (4 ^ 149)) power (widened (odd 24 false word 0 149) false (word * 2 ^ 0) (2 ^ 149) (2 ^ 149) (odd_sign 24 false word 0 149)));
    }

-- ---- the bounds of the root

pub root-bounds : (q p : ℕ) → 2 ^ 23 ≤ q → q < 2 ^ 24 → (2 ^ 23 ≤ nearest_root (whole_part q p)) × (nearest_root (whole_part q p) < 2 ^ 24)
root-bounds q p lo hi =
    let b = whole-bounds q p lo hi in
    let near = nearest-near (whole_part q p) (omega (arith, b)) (omega (arith, b)) in
    (near-least (whole_part q p) (nearest_root (whole_part q p)) b.0 near, near-most (whole_part q p) (nearest_root (whole_part q p)) b.1 near)

-- ---- a root is written by adding its digits to its exponent's field

pub root-word : (k r : ℕ) → k ≤ 189 → 2 ^ 23 ≤ r → r < 2 ^ 24 → of_word (k * 2 ^ 23 + r) ≡ odd 24 false r k 149
root-word k r top lo hi =
    let field : (k * 2 ^ 23 + r) / 2 ^ 23 ≡ suc k = omega arith in
    let digits : 2 ^ 23 + (k * 2 ^ 23 + r) % 2 ^ 23 ≡ r = omega arith in
    word_fields (k * 2 ^ 23 + r) (omega arith)
    ∙ ap (λ (x : ℕ). of_fields binary32 false x ((k * 2 ^ 23 + r) % 2 ^ 23)) field
    ∙ normal-fields k ((k * 2 ^ 23 + r) % 2 ^ 23) (omega arith)
    ∙ ap (λ (q : ℕ). odd 24 false q k 149) digits

-- ---- an argument's parts, as the code has them: the last digit by a mask, shifted in 32 bits

module _ (x : Float) (q p : ℕ) (parts : Parts x q p) where
  pub even_is : q * 2 ^ (1 - bit_and p 1) % 2 ^ 32 ≡ even_part q p
  even_is = ap (λ (b : ℕ). q * 2 ^ (1 - b) % 2 ^ 32) (and_mask p 1) ∙ mod-eq_of_lt (lt_of_lt_of_le (even-most q p parts.q-most) (pow_mono {i = 25} {j = 32} (omega arith)))

  pub field_is : half_power p * 2 ^ 23 % 2 ^ 32 ≡ half_power p * 2 ^ 23
  field_is = mod-eq_of_lt (omega (arith, parts.p-most))

  -- the root's pattern, from that of its digits
  pub pattern-is : (r : ℕ) → r ≡ nearest_root (even_part q p * 2 ^ 23) → (half_power p * 2 ^ 23 + r < 0x7F80_0000) × (of_word (half_power p * 2 ^ 23 + r) ≡ root x)
  pattern-is r is =
      let found : r ≡ nearest_root (whole_part q p) = is ∙ ap nearest_root (even-whole q p) in
      let b = root-bounds q p parts.q-least parts.q-most in
      let least : 2 ^ 23 ≤ r = rw found b.0 in
      let most : r < 2 ^ 24 = rw found b.1 in
      let top : half_power p ≤ 189 = omega (arith, parts.p-most) in
      (omega arith, root-word (half_power p) r top least most ∙ ap (λ (n : ℕ). odd 24 false n (half_power p) 149) found ∙ sym (root-parts x q p parts))

-- ---- the pattern of a positive finite number

at_top : (t : Bool) → lt (cond t (inf false) nan) (one ⊘ zero32) ≡ false
unfolding lt div of_bits
at_top true = refl
at_top false = refl

-- what has its sign set is not above zero
odd-negative : (d q k l : ℕ) → lt zero32 (odd d true q k l) ≡ false
unfolding lt of_bits odd
odd-negative d zero k l = refl
odd-negative d (suc q) k l = refl

not-positive : (x t : ℕ) → lt zero32 (of_fields binary32 true x t) ≡ false
unfolding of_fields lt of_bits
not-positive zero t = odd-negative 24 t 0 149
not-positive (suc x) t = go (eqb (suc x) 255) (eqb t 0)
  where
    go : (a b : Bool) → lt zero32 (cond a (cond b (inf true) nan) (odd 24 true (2 ^ 23 + t) x 149)) ≡ false
    go true true = refl
    go true false = refl
    go false b = odd-negative 24 (2 ^ 23 + t) x 149

top-word : (word : ℕ) → 0x7F80_0000 ≤ word → word < 2 ^ 31 → lt (of_word word) (one ⊘ zero32) ≡ false
unfolding of_fields
top-word word lo hi =
    let field : word / 2 ^ 23 ≡ 255 = omega arith in
    ap (λ (v : Float). lt v (one ⊘ zero32)) (word_fields word hi ∙ ap (λ (x : ℕ). of_fields binary32 false x (word % 2 ^ 23)) field) ∙ at_top (eqb (word % 2 ^ 23) 0)

negative-word : (word : ℕ) → 2 ^ 31 ≤ word → lt zero32 (of_word word) ≡ false
unfolding of_bits
negative-word word h =
    ap (λ (s : Bool). lt zero32 (of_fields binary32 s (word % 2 ^ 31 / 2 ^ 23) (word % 2 ^ 23))) (le-leb (2 ^ 31) word h)
    ∙ not-positive (word % 2 ^ 31 / 2 ^ 23) (word % 2 ^ 23)

zero_word : lt zero32 (of_word 0) ≡ false
unfolding lt of_bits
zero_word = refl

positive-bits : (word : ℕ) → lt zero32 (of_word word) ≡ true → lt (of_word word) (one ⊘ zero32) ≡ true → (0 < word) × (word < 0x7F80_0000)
positive-bits zero above below = absurd (false≢true (sym zero_word ∙ above))
positive-bits (suc w) above below = (omega arith, lt_of_not-le (λ (g : 0x7F80_0000 ≤ suc w). go g (leb (2 ^ 31) (suc w)) refl))
  where
    go : 0x7F80_0000 ≤ suc w → (b : Bool) → leb (2 ^ 31) (suc w) ≡ b → ⊥
    go g true e = false≢true (sym (negative-word (suc w) (leb-true (2 ^ 31) (suc w) e)) ∙ above)
    go g false e = false≢true (sym (top-word (suc w) g (leb-false (2 ^ 31) (suc w) e)) ∙ below)

-- a number above zero has no sign
pub above_word : (x : Float) → T (fits binary32 x) → lt zero32 x ≡ true → (0 < to_word x) × (to_word x < 2 ^ 31)
above_word x h above = go (to_word x) (ap (λ (v : Float). lt zero32 v) (of_bits-to_bits binary32 x h) ∙ above)
  where
    go : (w : ℕ) → lt zero32 (of_word w) ≡ true → (0 < w) × (w < 2 ^ 31)
    go zero up = absurd (false≢true (sym zero_word ∙ up))
    go (suc w) up = (zero-lt-suc w, lt_of_not-le (λ (g : 2 ^ 31 ≤ suc w). false≢true (sym (negative-word (suc w) g) ∙ up)))

pub positive-word : (x : Float) → T (fits binary32 x) → lt zero32 x ≡ true → lt x (one ⊘ zero32) ≡ true → (0 < to_word x) × (to_word x < 0x7F80_0000)
positive-word x h above below =
    let back = of_bits-to_bits binary32 x h in
    positive-bits (to_word x) (ap (λ (v : Float). lt zero32 v) back ∙ above) (ap (λ (v : Float). lt v (one ⊘ zero32)) back ∙ below)

-- ---- a number above zero, and one that equals it, by its value

pub above_zero : (x : Float) (n d : ℕ) → 0 < n → HasValue x false n d → (lt zero32 x ≡ true) × (finite x ≡ true)
unfolding lt of_bits finite
above_zero nan n d h v = absurd v
above_zero (inf s) n d h v = absurd v
above_zero (fin true m e) n d h v = absurd (true≢false v.0)
above_zero (fin false m e) n d h v =
    (lt-ltb (0 * 1 * down e) (m * up e * 1) (subst (λ (z : ℕ). z < m * up e * 1) (sym (zero-mul (down e))) (mul-pos (mul-pos (positive m e n d h v.1) (up_pos e)) (zero-lt-suc 0))), refl)

pub zero-value : (x : Float) (s : Bool) (n d : ℕ) → HasValue x s n d → eq x zero32 ≡ true → n ≡ 0
unfolding eq of_bits
zero-value nan s n d v e = absurd v
zero-value (inf t) s n d v e = absurd v
zero-value (fin t m k) s n d v e =
    let same = eqb-true (m * up k * 1) (0 * down k) (both (eqb (m * up k * 1) (0 * down k)) _ e).0 in
    let none : m * up k ≡ 0 = sym (mul-one (m * up k)) ∙ same ∙ zero-mul (down k) in
    eq_of_mul-eq-mul_right (down k) (down_pos k) n 0 (sym v.1 ∙ ap (λ (z : ℕ). z * d) none ∙ zero-mul d ∙ sym (zero-mul (down k)))
