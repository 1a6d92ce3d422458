-- Rounding by a carry: a number with a half less one added, and one more where its whole part is odd, has in its upper digits the nearest whole number, at a tie the even one.
use mathlib.Core.Path.{◌≡◌, refl, sym, ap, ◌∙◌}
use Prim.Native.Nat.{ℕ, zero, suc, ◌+◌, ◌-◌, ◌*◌, ◌/◌, ◌%◌, ◌^◌, ◌≤◌, ◌<◌, compare, Ordering}
use native.Mathlib.Nat.{mod-lt, div-add-mod', pow-suc, suc-mul}
use native.Mathlib.Numerals.{add-one}
use native.Mathlib.Omega.{arith}
use lib.Dec.{is_le, compare_is_eq}
use lib.Pow.{pow_pos, high}
use lib.Ieee.{nearest}
use lib.Ieee.Nearest.{closest}
use borrow.Author.Tests.{leb-true, leb-false, eqb-true, eqb-false}

-- n is q * 2 ^ suc k + r, and h is 2 ^ k
module _ (k n q r h : ℕ) (is : h ≡ 2 ^ k) (whole : q * 2 ^ suc k + r ≡ n) (part : r < 2 ^ suc k) where
  two : 2 ^ suc k ≡ 2 * h
  two = omega (arith, pow-suc 2 k)

  positive : 0 < h
  positive = omega (arith, pow_pos k)

  stays : (c : ℕ) → r + (h - 1) + c < 2 * h → (n + (h - 1) + c) / 2 ^ suc k ≡ q
  stays c small =
      ap (λ (m : ℕ). m / 2 ^ suc k) (omega (arith, whole)) ∙ high q (suc k) {lo = r + (h - 1) + c} (omega (arith, two))

  carries : (c : ℕ) → c ≤ 1 → 2 * h ≤ r + (h - 1) + c → (n + (h - 1) + c) / 2 ^ suc k ≡ suc q
  carries c few large =
      ap (λ (m : ℕ). m / 2 ^ suc k) (omega (arith, whole, suc-mul q (2 ^ suc k), two)) ∙ high (suc q) (suc k) {lo = r + (h - 1) + c - 2 * h} (omega (arith, two, part, positive))

  by_order : (o : Ordering) → compare (r * 2) (2 ^ suc k) ≡ o → (n + (h - 1) + q % 2) / 2 ^ suc k ≡ nearest q o
  by_order Ordering.lt e =
      let below = leb-true (r * 2) (2 ^ suc k) (ap is_le e) in
      let apart = eqb-false (r * 2) (2 ^ suc k) (ap compare_is_eq e) in
      stays (q % 2) (omega (arith, below, apart, two, positive))
  by_order Ordering.gt e =
      let above = leb-false (r * 2) (2 ^ suc k) (ap is_le e) in
      carries (q % 2) (omega arith) (omega (arith, above, two, positive))
  by_order Ordering.eq e = go (q % 2) (omega arith) (eqb-true (r * 2) (2 ^ suc k) (ap compare_is_eq e))
    where
      go : (c : ℕ) → c < 2 → r * 2 ≡ 2 ^ suc k → (n + (h - 1) + c) / 2 ^ suc k ≡ q + c
      go zero few half = stays 0 (omega (arith, two, positive)) ∙ omega arith
      go (suc zero) few half = carries 1 (omega arith) (omega (arith, two, positive)) ∙ sym (add-one q)
      go (suc (suc c)) few half = absurd (omega arith)

pub carry : (k n h : ℕ) → h ≡ 2 ^ k → (n + (h - 1) + n / 2 ^ suc k % 2) / 2 ^ suc k ≡ closest n (2 ^ suc k)
carry k n h is =
    by_order k n (n / 2 ^ suc k) (n % 2 ^ suc k) h is (div-add-mod' n (2 ^ suc k)) (mod-lt n (pow_pos (suc k))) (compare (n % 2 ^ suc k * 2) (2 ^ suc k)) refl
