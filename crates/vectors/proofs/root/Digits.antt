-- The root of an a of 48 digits, a digit at a time from the leading one. With j digits still to come, twice the root so far and what is left over are kept as whole numbers of 26 digits at most:
--     digits-none                 what stands before the first digit
--     digit-left, digit-taken     after one digit more, a 0 or a 1; digit-next: either
--     rounded-is                  after the last one, on which side of the half the root lies
use mathlib.Core.Path.{◌≡◌, refl, sym, ap, ap₂, ◌∙◌, subst}
use mathlib.Core.Bool.{Bool, true, false, not, cond}
use Prim.Native.Nat.{ℕ, zero, suc, ◌+◌, ◌-◌, ◌*◌, ◌/◌, ◌^◌, ◌≤◌, ◌<◌}
use native.Mathlib.Nat.{add-mul, mul_assoc, mul_comm, mul-one, mul-mul-mul_comm, mul-lt-mul_of_pos_right, mul-le-mul_right, pow-suc, one-le-pow, zero-lt-suc, div-one, div-div-eq-div-mul, div-lt_iff_lt-mul, le-div_iff_mul-le, mul-div_cancel, lt_irrefl}
use native.Mathlib.Omega.{arith}
use lib.Dec.{T, leb, ltb, ltb→lt, nltb→le}
use lib.Pow.{pow_pos}
use borrow.Author.Tests.{le-leb, lt-leb, lt-ltb, le-ltb}
use Rattle.vectors.specs.Root.{floor_root, nearest_root}
use Rattle.vectors.specs.parts.Root.{rest_after, twice_after, rounded_of}
use Rattle.vectors.proofs.root.Whole.{square-sum, four-pow}

-- The root so far, at its place: the whole root of all but the last 2 * j digits of a, and j zeros.
abbrev pub so_far : ℕ → ℕ → ℕ
so_far a j = floor_root (24 - j) (a / 4 ^ j) * 2 ^ j

-- What stands with j digits to come. What is left over is a less the square of the root so far; `rest` is that without the j - 1 zeros at its end.
pub record Digits (a j rest twice : ℕ) : Type 0 where
  pub root_is : twice ≡ 2 * so_far a j
  pub rest-is : 2 * a ≡ 2 * (so_far a j * so_far a j) + rest * 2 ^ j
  pub rest-most : rest < 2 * (twice + 2 ^ j)
  pub twice_most : twice + 2 * 2 ^ j ≤ 2 ^ 25

-- ---- the next digit of the root

-- the root so far and one digit more, as the definition has them
next-root : (a k : ℕ) → k < 24 → let t = 2 * floor_root (24 - suc k) (a / 4 ^ suc k) in
    floor_root (24 - k) (a / 4 ^ k) ≡ cond (leb ((t + 1) * (t + 1)) (a / 4 ^ k)) (t + 1) t
unfolding floor_root
next-root a k few =
    let one_more : 24 - k ≡ suc (24 - suc k) = omega arith in
    let quarter : a / 4 ^ k / 4 ≡ a / 4 ^ suc k = div-div-eq-div-mul a (4 ^ k) 4 ∙ ap (λ (x : ℕ). a / x) (sym (pow-suc 4 k)) in
    ap (λ (n : ℕ). floor_root n (a / 4 ^ k)) one_more
    ∙ ap (λ (x : ℕ). let t = 2 * floor_root (24 - suc k) x in cond (leb ((t + 1) * (t + 1)) (a / 4 ^ k)) (t + 1) t) quarter

-- moved to its place
place : (s k : ℕ) → 2 * s * 2 ^ k ≡ s * 2 ^ suc k
place s k = mul_assoc 2 s (2 ^ k) ∙ mul_comm 2 (s * 2 ^ k) ∙ mul_assoc s (2 ^ k) 2 ∙ ap (λ (x : ℕ). s * x) (sym (pow-suc 2 k))

place-one : (s k : ℕ) → (2 * s + 1) * 2 ^ k ≡ s * 2 ^ suc k + 2 ^ k
place-one s k = omega (arith, add-mul (2 * s) 1 (2 ^ k), place s k)

place-square : (s k : ℕ) → (2 * s + 1) * (2 * s + 1) * 4 ^ k ≡ (s * 2 ^ suc k + 2 ^ k) * (s * 2 ^ suc k + 2 ^ k)
place-square s k =
    ap (λ (x : ℕ). (2 * s + 1) * (2 * s + 1) * x) (four-pow k) ∙ mul-mul-mul_comm (2 * s + 1) (2 * s + 1) (2 ^ k) (2 ^ k)
    ∙ ap (λ (x : ℕ). x * x) (place-one s k)

four-pos : (k : ℕ) → 0 < 4 ^ k
four-pos k = one-le-pow k 4 (zero-lt-suc 3)

digit-is-1 : (a k : ℕ) → k < 24 → (so_far a (suc k) + 2 ^ k) * (so_far a (suc k) + 2 ^ k) ≤ a → so_far a k ≡ so_far a (suc k) + 2 ^ k
digit-is-1 a k few fits =
    let s = floor_root (24 - suc k) (a / 4 ^ suc k) in
    let yes : leb ((2 * s + 1) * (2 * s + 1)) (a / 4 ^ k) ≡ true =
    le-leb _ _ ((le-div_iff_mul-le (four-pos k)).1 (subst (λ (x : ℕ). x ≤ a) (sym (place-square s k)) fits)) in
    ap (λ (x : ℕ). x * 2 ^ k) (next-root a k few ∙ ap (λ (b : Bool). cond b (2 * s + 1) (2 * s)) yes) ∙ place-one s k

digit-is-0 : (a k : ℕ) → k < 24 → a < (so_far a (suc k) + 2 ^ k) * (so_far a (suc k) + 2 ^ k) → so_far a k ≡ so_far a (suc k)
digit-is-0 a k few short =
    let s = floor_root (24 - suc k) (a / 4 ^ suc k) in
    let no : leb ((2 * s + 1) * (2 * s + 1)) (a / 4 ^ k) ≡ false =
    lt-leb _ _ ((div-lt_iff_lt-mul (four-pos k)).1 (subst (λ (x : ℕ). a < x) (sym (place-square s k)) short)) in
    ap (λ (x : ℕ). x * 2 ^ k) (next-root a k few ∙ ap (λ (b : Bool). cond b (2 * s + 1) (2 * s)) no) ∙ place s k

-- ---- what is left over: s is the root so far, and b the digit's place

-- a remainder of d places is one of twice as many at the next digit
doubled : (rest b : ℕ) → rest * (b * 2) ≡ 2 * (rest * b)
doubled rest b = sym (mul_assoc rest b 2) ∙ mul_comm (rest * b) 2

too_small : (a s b rest : ℕ) → 0 < b → 2 * a ≡ 2 * (s * s) + rest * (b * 2) → rest < 2 * s + b → a < (s + b) * (s + b)
too_small a s b rest some is less =
    omega (arith, square-sum s b, doubled rest b, mul-lt-mul_of_pos_right less some, add-mul (2 * s) b b, mul_assoc 2 s b)

large-enough : (a s b rest : ℕ) → 2 * a ≡ 2 * (s * s) + rest * (b * 2) → 2 * s + b ≤ rest → (s + b) * (s + b) ≤ a
large-enough a s b rest is enough =
    omega (arith, square-sum s b, doubled rest b, mul-le-mul_right b enough, add-mul (2 * s) b b, mul_assoc 2 s b)

less-square : (a s b more : ℕ) → 2 * a ≡ 2 * (s * s) + (more + (2 * s + b)) * (b * 2) → 2 * a ≡ 2 * ((s + b) * (s + b)) + more * 2 * b
less-square a s b more is =
    omega (arith, square-sum s b, doubled (more + (2 * s + b)) b, add-mul more (2 * s + b) b, add-mul (2 * s) b b, mul_assoc 2 s b, mul_comm more 2, mul_assoc 2 more b)

-- ---- the place of the next digit, where j are to come: halved at each, and 0 after the last

half-power : (k : ℕ) → 2 ^ suc k / 2 ≡ 2 ^ k
half-power k = ap (λ (x : ℕ). x / 2) (pow-suc 2 k) ∙ mul-div_cancel (2 ^ k) (zero-lt-suc 1)

pub next_place : (j digit : ℕ) → digit ≡ 2 ^ j / 2 → 0 < digit → (k : ℕ) × (j ≡ suc k) × (digit ≡ 2 ^ k)
next_place zero digit is some = absurd (lt_irrefl 0 (subst (λ (x : ℕ). 0 < x) is some))
next_place (suc k) digit is some = (k, refl, is ∙ half-power k)

pub no_place : (j digit : ℕ) → digit ≡ 2 ^ j / 2 → digit ≤ 0 → j ≡ 0
no_place zero digit is none = refl
no_place (suc k) digit is none = absurd (omega (arith, is ∙ half-power k, pow_pos k))

-- ---- one digit more

pub digits-none : (a : ℕ) (m : ℕ) → m < 2 ^ 25 → a ≡ m * 2 ^ 23 → Digits a 24 m 0
unfolding floor_root
digits-none a m few is = record {
  root_is = refl;
  rest-is = omega arith;
  rest-most = omega arith;
  twice_most = omega arith;
}

pub digit-left : (a k rest twice : ℕ) → k < 24 → Digits a (suc k) rest twice → rest < twice + 2 ^ k → Digits a k (rest * 2) twice
digit-left a k rest twice few d less =
    let s = so_far a (suc k) in
    let b = 2 ^ k in
    let two : 2 ^ suc k ≡ b * 2 = pow-suc 2 k in
    let is : 2 * a ≡ 2 * (s * s) + rest * (b * 2) = subst (λ (x : ℕ). 2 * a ≡ 2 * (s * s) + rest * x) two d.rest-is in
    let same : so_far a k ≡ s = digit-is-0 a k few (too_small a s b rest (pow_pos k) is (omega (arith, d.root_is))) in
    record {
      root_is = d.root_is ∙ ap (λ (x : ℕ). 2 * x) (sym same);
      rest-is = is ∙ ap₂ (λ (x y : ℕ). 2 * (x * x) + y) (sym same) (doubled rest b ∙ sym (mul_assoc 2 rest b) ∙ ap (λ (x : ℕ). x * b) (mul_comm 2 rest));
      rest-most = omega arith;
      twice_most = omega (arith, d.twice_most);
    }

pub digit-taken : (a k rest twice : ℕ) → k < 24 → Digits a (suc k) rest twice → twice + 2 ^ k ≤ rest → Digits a k ((rest - (twice + 2 ^ k)) * 2) (twice + 2 ^ k + 2 ^ k)
digit-taken a k rest twice few d enough =
    let s = so_far a (suc k) in
    let b = 2 ^ k in
    let more = rest - (twice + b) in
    let two : 2 ^ suc k ≡ b * 2 = pow-suc 2 k in
    let is : 2 * a ≡ 2 * (s * s) + rest * (b * 2) = subst (λ (x : ℕ). 2 * a ≡ 2 * (s * s) + rest * x) two d.rest-is in
    let parts : rest ≡ more + (2 * s + b) = omega (arith, d.root_is) in
    let next : so_far a k ≡ s + b = digit-is-1 a k few (large-enough a s b rest is (omega (arith, d.root_is))) in
    record {
      root_is = omega (arith, d.root_is, next);
      rest-is = less-square a s b more (subst (λ (x : ℕ). 2 * a ≡ 2 * (s * s) + x * (b * 2)) parts is) ∙ ap (λ (x : ℕ). 2 * (x * x) + more * 2 * b) (sym next);
      rest-most = omega (arith, d.rest-most);
      twice_most = omega (arith, d.twice_most);
    }

-- a 0 or a 1, by what is left over
pub digit-next : (a k rest twice : ℕ) → k < 24 → Digits a (suc k) rest twice → Digits a k (rest_after rest twice (2 ^ k)) (twice_after rest twice (2 ^ k))
digit-next a k rest twice few d = go (ltb rest (twice + 2 ^ k)) (ltb→lt rest (twice + 2 ^ k)) (nltb→le rest (twice + 2 ^ k))
  where
    go : (b : Bool) → (T b → rest < twice + 2 ^ k) → (T (not b) → twice + 2 ^ k ≤ rest)
        → Digits a k (cond b (rest * 2) ((rest - (twice + 2 ^ k)) * 2)) (cond b twice (twice + 2 ^ k + 2 ^ k))
    go true less enough = digit-left a k rest twice few d (less tt)
    go false less enough = digit-taken a k rest twice few d (enough tt)

-- both are far below 2 ^ 32
pub few-digits : (a k rest twice : ℕ) → Digits a (suc k) rest twice → (rest < 2 ^ 26) × (twice + 2 ^ k + 2 ^ k ≤ 2 ^ 25)
few-digits a k rest twice d = let two : 2 ^ suc k ≡ 2 ^ k * 2 = pow-suc 2 k in (omega (arith, d.rest-most, d.twice_most), omega (arith, d.twice_most))

-- ---- all digits: above the half exactly where more is left over than the root itself

last-root : (a rest twice : ℕ) → Digits a 0 rest twice → let s = floor_root 24 a in (twice ≡ 2 * s) × (2 * a ≡ 2 * (s * s) + rest)
last-root a rest twice d =
    let all : so_far a 0 ≡ floor_root 24 a = mul-one (floor_root 24 (a / 1)) ∙ ap (floor_root 24) (div-one a) in (
      d.root_is ∙ ap (λ (s : ℕ). 2 * s) all,
      d.rest-is ∙ ap₂ (λ (s x : ℕ). 2 * (s * s) + x) all (mul-one rest),
    )

halves : (a s rest twice : ℕ) → (twice ≡ 2 * s) × (2 * a ≡ 2 * (s * s) + rest) → (twice / 2 ≡ s) × (twice < rest → s * s + s < a) × (rest ≤ twice → a ≤ s * s + s)
halves a s rest twice last = (omega (arith, last), λ above. omega (arith, last), λ below. omega (arith, last))

pub rounded-is : (a rest twice : ℕ) → Digits a 0 rest twice → rounded_of rest twice ≡ nearest_root a
unfolding nearest_root
rounded-is a rest twice d =
    let s = floor_root 24 a in
    let half = halves a s rest twice (last-root a rest twice d) in
    ap (λ (x : ℕ). cond (ltb twice rest) (x + 1) x) half.0
    ∙ ap (λ (b : Bool). cond b (s + 1) s) (side s (ltb twice rest) (ltb→lt twice rest) (nltb→le twice rest) half.1 half.2)
  where
    side : (s : ℕ) (b : Bool) → (T b → twice < rest) → (T (not b) → rest ≤ twice) → (twice < rest → s * s + s < a) → (rest ≤ twice → a ≤ s * s + s) → b ≡ ltb (s * s + s) a
    side s true above below up down = sym (lt-ltb _ _ (up (above tt)))
    side s false above below up down = sym (le-ltb _ _ (down (below tt)))
