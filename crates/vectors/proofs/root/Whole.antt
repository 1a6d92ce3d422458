-- Square roots among the whole numbers: the definition's digit by digit root is the whole part, its nearest one is nearest, and each is the only one.
use mathlib.Core.Path.{◌≡◌, refl, sym, ap, ap₂, ◌∙◌, subst}
use mathlib.Core.Bool.{Bool, true, false, not, cond}
use Prim.Native.Nat.{ℕ, zero, suc, ◌+◌, ◌-◌, ◌*◌, ◌/◌, ◌^◌, ◌≤◌, ◌<◌}
use native.Mathlib.Nat.{le_antisymm, le_of_lt, le_of_suc-le-suc, lt_of_le_of_lt, lt_of_not-le, mul-le-mul, mul-le-mul_left, add-mul, mul-add, mul_assoc, mul_comm, mul_left_comm, mul-mul-mul_comm, pow-suc, zero-lt-suc, div-lt_iff_lt-mul}
use native.Mathlib.Numerals.{add-one}
use native.Mathlib.Omega.{arith}
use lib.Dec.{T, leb, ltb, leb→le, nleb→lt, ltb→lt, nltb→le}
use lib.Pow.{shl_lt}
use Rattle.vectors.specs.Root.{floor_root, nearest_root}

-- a number of i digits times one of j digits has at most i + j
pub mul-lt-pow : {a b : ℕ} (i j : ℕ) → a < 2 ^ i → b < 2 ^ j → a * b < 2 ^ (i + j)
mul-lt-pow {a} i j ha hb = lt_of_le_of_lt (mul-le-mul_left a (le_of_lt hb)) (shl_lt i j ha)

-- ---- squares

pub next-square : (s : ℕ) → (s + 1) * (s + 1) ≡ s * s + s + s + 1
next-square s = omega (arith, mul-add (s + 1) s 1, add-mul s 1 s)

pub square-sum : (s t : ℕ) → (s + t) * (s + t) ≡ s * s + 2 * (s * t) + t * t
square-sum s t = omega (arith, mul-add (s + t) s t, add-mul s t s, add-mul s t t, mul_comm t s)

-- the square of 2 ^ k
pub four-pow : (k : ℕ) → 4 ^ k ≡ 2 ^ k * 2 ^ k
four-pow zero = refl
four-pow (suc k) =
    pow-suc 4 k ∙ ap (λ (x : ℕ). x * 4) (four-pow k) ∙ mul-mul-mul_comm (2 ^ k) (2 ^ k) 2 2 ∙ sym (ap₂ (λ (x y : ℕ). x * y) (pow-suc 2 k) (pow-suc 2 k))

double-square : (s : ℕ) → 2 * s * (2 * s) ≡ 4 * (s * s)
double-square s = mul_assoc 2 s (2 * s) ∙ ap (λ (x : ℕ). 2 * x) (mul_left_comm s 2 s) ∙ sym (mul_assoc 2 2 (s * s))

pub odd-square : (s : ℕ) → (2 * s + 1) * (2 * s + 1) ≡ 4 * (s * s) + 4 * s + 1
odd-square s = omega (arith, next-square (2 * s), double-square s)

-- ---- the whole part

-- s is the whole part of the root of a
abbrev pub Floor : ℕ → ℕ → Type 0
Floor a s = (s * s ≤ a) × (a < (s + 1) * (s + 1))

-- one more digit: s is twice the whole part t of the root of a / 4
one-digit : (a t : ℕ) (b : Bool) → (T b → (2 * t + 1) * (2 * t + 1) ≤ a) → (T (not b) → a < (2 * t + 1) * (2 * t + 1)) → Floor (a / 4) t → Floor a (cond b (2 * t + 1) (2 * t))
one-digit a t true yes-above no_above h =
    (yes-above tt, omega (arith, next-square (2 * t + 1), odd-square t, next-square t, h))
one-digit a t false yes-above no_above h =
    (omega (arith, double-square t, h), no_above tt)

pub floor-is : (n a : ℕ) → a < 4 ^ n → Floor a (floor_root n a)
unfolding floor_root
floor-is zero a h = (omega arith, omega arith)
floor-is (suc n) a h =
    let s = 2 * floor_root n (a / 4) in
    one-digit a (floor_root n (a / 4)) (leb ((s + 1) * (s + 1)) a) (leb→le ((s + 1) * (s + 1)) a) (nleb→lt ((s + 1) * (s + 1)) a)
    (floor-is n (a / 4) ((div-lt_iff_lt-mul (zero-lt-suc 3)).1 (subst (λ (x : ℕ). a < x) (pow-suc 4 n) h)))

-- ---- the nearest

-- r is nearest to the root of a: (2 * r - 1) ^ 2 < 4 * a < (2 * r + 1) ^ 2, with the ones cancelled
abbrev pub Near : ℕ → ℕ → Type 0
Near a r = (r * r < a + r) × (a ≤ r * r + r)

-- between the whole part and the next number, by which side of the half the root lies on
pub near-above : (a s : ℕ) → Floor a s → s * s + s < a → Near a (s + 1)
near-above a s h above = (omega (arith, next-square s, h), omega (arith, next-square s, h))

pub near-below : (a s : ℕ) → Floor a s → 0 < a → a ≤ s * s + s → Near a s
near-below a zero h p below = absurd (omega (arith, h))
near-below a (suc s) h p below = (omega (arith, h), below)

pub nearest-near : (a : ℕ) → 0 < a → a < 4 ^ 24 → Near a (nearest_root a)
unfolding nearest_root
nearest-near a p h =
    let s = floor_root 24 a in
    go (ltb (s * s + s) a) (ltb→lt (s * s + s) a) (nltb→le (s * s + s) a)
  where
    go : (b : Bool) → (T b → floor_root 24 a * floor_root 24 a + floor_root 24 a < a) → (T (not b) → a ≤ floor_root 24 a * floor_root 24 a + floor_root 24 a)
        → Near a (cond b (floor_root 24 a + 1) (floor_root 24 a))
    go true above below = near-above a (floor_root 24 a) (floor-is 24 a h) (above tt)
    go false above below = near-below a (floor_root 24 a) (floor-is 24 a h) p (below tt)

-- r below t, both nearest: t * t is at least (r + 1) * t, which is at least r * r + r + t
not-below : (a r t : ℕ) → Near a r → Near a t → r < t → ⊥
not-below a r t h g l =
    let p : t * (r + 1) ≤ t * t = mul-le-mul_left t (omega arith) in
    let q : r * (r + 1) ≤ r * t = mul-le-mul_left r (omega arith) in
    omega (arith, mul-add t r 1, mul-add r r 1, mul_comm r t, h, g, p, q)

pub near-only : (a r t : ℕ) → Near a r → Near a t → r ≡ t
near-only a r t h g = le_antisymm (le_of_suc-le-suc (lt_of_not-le (λ l. not-below a t r g h l))) (le_of_suc-le-suc (lt_of_not-le (λ l. not-below a r t h g l)))

pub nearest-only : (a r : ℕ) → 0 < a → a < 2 ^ 48 → Near a r → r ≡ nearest_root a
nearest-only a r p h n = near-only a r (nearest_root a) n (nearest-near a p h)

-- ---- how many digits the nearest has

pub near-least : (a r : ℕ) → 2 ^ 46 ≤ a → Near a r → 2 ^ 23 ≤ r
near-least a r h n = let large : 2 ^ 23 < suc r = lt_of_not-le small in omega arith
  where
    small : suc r ≤ 2 ^ 23 → ⊥
    small l =
        let p : r * r ≤ (2 ^ 23 - 1) * (2 ^ 23 - 1) = mul-le-mul {n₁ = r} {m₁ = r} {n₂ = 2 ^ 23 - 1} {m₂ = 2 ^ 23 - 1} (omega arith) (omega arith) in
        omega (arith, n, p)

pub near-most : (a r : ℕ) → a ≤ 2 ^ 48 - 2 ^ 24 → Near a r → r < 2 ^ 24
near-most a r h n = lt_of_not-le large
  where
    large : 2 ^ 24 ≤ r → ⊥
    large l =
        let p : r * 2 ^ 24 ≤ r * r = mul-le-mul_left r l in
        omega (arith, n, p)

-- ---- document 01's inequality

suc-square : (s : ℕ) → suc s * suc s ≡ s * s + s + s + 1
suc-square s = ap (λ (x : ℕ). x * x) (sym (add-one s)) ∙ next-square s

-- (2 * r - 1) ^ 2, for r = s + 1
below-square : (s : ℕ) → (2 * suc s - 1) * (2 * suc s - 1) ≡ 4 * (s * s) + 4 * s + 1
below-square s = ap (λ (x : ℕ). x * x) (less_one s) ∙ odd-square s
  where
    less_one : (s : ℕ) → 2 * suc s - 1 ≡ 2 * s + 1
    less_one s = omega arith

pub near-says : (a r : ℕ) → 0 < r → Near a r → ((2 * r - 1) * (2 * r - 1) < 4 * a) × (4 * a < (2 * r + 1) * (2 * r + 1))
near-says a zero p n = elim p [ ]
near-says a (suc s) p n = (omega (arith, below-square s, suc-square s, n), omega (arith, odd-square (suc s), n))

pub near_of : (a r : ℕ) → 0 < r → (2 * r - 1) * (2 * r - 1) < 4 * a → 4 * a < (2 * r + 1) * (2 * r + 1) → Near a r
near_of a zero p above below = elim p [ ]
near_of a (suc s) p above below = (omega (arith, below-square s, suc-square s), omega (arith, odd-square (suc s)))
