-- Squares of distances by products: |p - q|^2 + 2 p.q = |p|^2 + |q|^2, axis by axis, and none of these numbers is large.
use mathlib.Core.Path.{◌≡◌, sym, ap, ◌∙◌}
use mathlib.Core.Bool.{Bool, true, false, not}
use Prim.Native.Nat.{ℕ, ◌+◌, ◌-◌, ◌*◌, ◌^◌, ◌≤◌, ◌<◌}
use native.Mathlib.Nat.{mul-add, add-mul, mul_comm}
use native.Mathlib.Omega.{arith}
use lib.Dec.{T, leb, leb→le, nleb→lt}
use Rattle.vectors.proofs.root.Whole.{mul-lt-pow}
use Rattle.spacing.specs.declared.spots.FromCorner.{FromCorner}
use Rattle.spacing.specs.declared.spots.Spot.{Spot}
use Rattle.spacing.specs.parts.Millimetres.{reach}
use Rattle.spacing.specs.Frame.{square}
use Rattle.spacing.specs.parts.Spots.{between, dot, squared_between}

-- a product of two distances from the corner
pub product_small : (a b : ℕ) → a ≤ 2 * reach → b ≤ 2 * reach → a * b < 2 ^ 50
product_small a b ha hb = mul-lt-pow {a = a} {b = b} 25 25 (omega arith) (omega arith)

-- where b is c above a: c * c + 2 * (a * (a + c)) is a * a + (a + c) * (a + c)
above : (a c : ℕ) → square c + 2 * (a * (a + c)) ≡ a * a + (a + c) * (a + c)
above a c = omega (arith, mul-add a a c, mul-add (a + c) a c, add-mul a c a, add-mul a c c, mul_comm a c)

pub square-between : (a b : ℕ) → square (between a b) + 2 * (a * b) ≡ a * a + b * b
square-between a b = go (leb a b) (leb→le a b) (nleb→lt a b)
  where
    up : (a b : ℕ) → a ≤ b → square (between a b) + 2 * (a * b) ≡ a * a + b * b
    up a b h =
        let c = b - a in
        let is : b ≡ a + c = omega arith in
        let gap : between a b ≡ c = omega arith in
        ap (λ (d : ℕ). square d + 2 * (a * b)) gap ∙ ap (λ (d : ℕ). square c + 2 * (a * d)) is ∙ above a c ∙ sym (ap (λ (d : ℕ). a * a + d * d) is)

    down : (a b : ℕ) → b < a → square (between a b) + 2 * (a * b) ≡ a * a + b * b
    down a b h =
        let same : between a b ≡ between b a = omega arith in
        ap (λ (d : ℕ). square d + 2 * (a * b)) same ∙ omega (arith, up b a (omega arith), mul_comm a b)

    go : (t : Bool) → (T t → a ≤ b) → (T (not t) → b < a) → square (between a b) + 2 * (a * b) ≡ a * a + b * b
    go true least most = up a b (least tt)
    go false least most = down a b (most tt)

-- what the code makes of two agents' squares and of d, their dot product
by-dots : (p q : Spot) (d : ℕ) → d ≡ dot p.position q.position
    → (d < 2 ^ 52) × (p.square + q.square < 2 ^ 53) × (2 * d ≤ p.square + q.square) × (p.square + q.square - 2 * d ≡ squared_between p q)
by-dots p q d is =
    let (a, b) : FromCorner × FromCorner = (p.position, q.position) in
    let x = product_small a.x b.x a.near.0 b.near.0 in
    let y = product_small a.y b.y a.near.1 b.near.1 in
    let z = product_small a.z b.z a.near.2 b.near.2 in
    let xp = product_small a.x a.x a.near.0 a.near.0 in
    let yp = product_small a.y a.y a.near.1 a.near.1 in
    let zp = product_small a.z a.z a.near.2 a.near.2 in
    let xq = product_small b.x b.x b.near.0 b.near.0 in
    let yq = product_small b.y b.y b.near.1 b.near.1 in
    let zq = product_small b.z b.z b.near.2 b.near.2 in
    let gaps : squared_between p q + 2 * d ≡ p.square + q.square =
    omega (arith, is, p.squared, q.squared, square-between a.x b.x, square-between a.y b.y, square-between a.z b.z) in
    (omega arith, omega (arith, p.squared, q.squared), omega arith, omega arith)

pub dot-least : (p q : Spot) (d : ℕ) → d ≡ dot p.position q.position → 2 * d ≤ p.square + q.square
dot-least p q d is = (by-dots p q d is).2

pub dot-gap : (p q : Spot) (d : ℕ) → d ≡ dot p.position q.position → p.square + q.square - 2 * d ≡ squared_between p q
dot-gap p q d is = (by-dots p q d is).3

pub ruleset dot_steps = (dot-least, dot-gap)
