-- The number that digits spell, digit by digit.
use Rattle.std.proofs.Common.{ℕ, ◌+◌, ◌*◌, ◌^◌, ◌≡◌, ◌≤◌, ◌<◌, List, length, get_or, drop, drop-cons, Some, None, add-one, arith}
use Rattle.std.proofs.Math.Nat.{pow-suc, pow-le-pow_right, mul-le-mul_left}
use Rattle.std.proofs.Math.Seq.{drop-length}
use borrow.Author.Tests.{le-leb, lt-leb}
use lib.Dec.{lit<}
use Rattle.lines.specs.Lines.{digit_of, spelled_in}

-- what is left to spell, by its first digit
pub one_more :
    (base v i d : ℕ) (s : List ℕ) → i < length s → Some d ≡ digit_of (get_or s i 0) → d < base →
    spelled_in base v (drop i s) ≡ spelled_in base (v * base + d) (drop (i + 1) s)
unfolding spelled_in
one_more base v i d s h e below = rw (drop-cons s i 0, ← e, add-one) (simp (lt-leb _ _ below))

pub no_digit : (base v i : ℕ) (s : List ℕ) → i < length s → None ≡ digit_of (get_or s i 0) → spelled_in base v (drop i s) ≡ None
unfolding spelled_in
no_digit base v i s h e = rw (drop-cons s i 0, ← e)

pub no_digit_of_base :
    (base v i d : ℕ) (s : List ℕ) → i < length s → Some d ≡ digit_of (get_or s i 0) → base ≤ d → spelled_in base v (drop i s) ≡ None
unfolding spelled_in
no_digit_of_base base v i d s h e over = rw (drop-cons s i 0, ← e) (simp (le-leb _ _ over))

pub no_more : (base v i : ℕ) (s : List ℕ) → i ≡ length s → spelled_in base v (drop i s) ≡ Some v
unfolding spelled_in
no_more base v i s e = rw (e, drop-length)

-- after i digits the number is below 16 ^ i
pub longer : (v b d i : ℕ) → v < 16 ^ i → b ≤ 16 → d < b → v * b + d < 16 ^ (i + 1)
longer v b d i h k l =
    let most : v * b ≤ v * 16 = mul-le-mul_left v k in
    rw (add-one, pow-suc) (omega arith)

-- eight digits fit a word
pub fits : (v b d i : ℕ) → v < 16 ^ i → i < 8 → b ≤ 16 → d < b → v * b + d < 2 ^ 32
fits v b d i h few k l =
    let next : v * b + d < 16 ^ (i + 1) = longer v b d i h k l in
    let short : i + 1 ≤ 8 = omega arith in
    let most : 16 ^ (i + 1) ≤ 16 ^ 8 = pow-le-pow_right (lit< tt) short in
    omega arith

pub ruleset digit_by_digit = (one_more, no_digit, no_digit_of_base, no_more, longer, fits)
