-- The few laws of planes lent as numbers: what a loop over them has left, what it has passed, and a part that is lent on.
use mathlib.Core.Path.{◌≡◌, refl, sym, ap, ◌∙◌}
use mathlib.Core.List.{List, [], ◌∷◌, ◌++◌}
use Prim.Native.Nat.{ℕ, zero, suc, ◌+◌, ◌-◌, ◌*◌, ◌/◌, ◌≤◌, ◌<◌, zero-le}
use native.Mathlib.Nat.{le_refl, le_of_lt, le_of_suc-le-suc, not-suc-le-zero, zero-add, suc-add, mul-div_cancel_left, zero-lt-suc}
use native.Mathlib.Omega.{arith}
use mathlib.Core.Bool.{Bool, true, false, not}
use lib.Dec.{T, leb, leb→le, nleb→lt}
use lib.ListN.{length, take, drop}
use lib.Seq.{get_or-take, drop-drop, take-nil, length-take-le}
use lib.Ieee.{Float, nan}
use Rattle.solver.specs.declared.Plane.{Plane}
use Rattle.solver.specs.Plane.{in_turn}
use Rattle.solver.specs.Lent.{plane_at, planes_of, planes_in}
use Rattle.solver.proofs.InTurn.{stays}

-- of the first n planes, those from index i on
unfoldable pub rest : ℕ → ℕ → List Float → List Plane
rest n i xs = planes_of (n - i) (drop (6 * i) xs)

pub rest_all : (n : ℕ) (xs : List Float) → rest n 0 xs ≡ planes_of n xs
unfolding rest
rest_all n xs = ap (λ (m : ℕ). planes_of m xs) (less_none n)
  where
    less_none : (n : ℕ) → n - 0 ≡ n
    less_none n = omega arith

pub rest-step : (n i : ℕ) (xs : List Float) → i < n → rest n i xs ≡ plane_at (drop (6 * i) xs) ∷ rest n (i + 1) xs
unfolding rest planes_of
rest-step n i xs h =
    let fewer : n - i ≡ suc (n - (i + 1)) = omega arith in
    let next : 6 * i + 6 ≡ 6 * (i + 1) = omega arith in
    ap (λ (m : ℕ). planes_of m (drop (6 * i) xs)) fewer
    ∙ ap (λ (ys : List Float). plane_at (drop (6 * i) xs) ∷ planes_of (n - (i + 1)) ys) (drop-drop 6 (6 * i) xs ∙ ap (λ (k : ℕ). drop k xs) next)

pub rest-none : (n i : ℕ) (xs : List Float) → n ≤ i → rest n i xs ≡ []
unfolding rest planes_of
rest-none n i xs h = let none : n - i ≡ 0 = omega arith in ap (λ (m : ℕ). planes_of m (drop (6 * i) xs)) none

-- one plane more is passed
pub passed-step : (i : ℕ) (xs : List Float) → planes_of (i + 1) xs ≡ planes_of i xs ++ plane_at (drop (6 * i) xs) ∷ []
unfolding planes_of
passed-step zero xs = refl
passed-step (suc i) xs =
    let next : 6 + 6 * i ≡ 6 * suc i = omega arith in
    ap (λ (m : ℕ). planes_of m xs) (suc_one i)
    ∙ ap (λ (ps : List Plane). plane_at xs ∷ ps) (passed-step i (drop 6 xs) ∙ ap (λ (ys : List Float). planes_of i (drop 6 xs) ++ plane_at ys ∷ []) (drop-drop (6 * i) 6 xs ∙ ap (λ (k : ℕ). drop k xs) next))
  where
    suc_one : (i : ℕ) → suc i + 1 ≡ suc (i + 1)
    suc_one i = omega arith

-- ---- the first planes do not depend on what stands after them

pub plane_at-take : (n : ℕ) (xs : List Float) → 6 ≤ n → plane_at (take n xs) ≡ plane_at xs
unfolding plane_at
plane_at-take n xs h =
    rw (get_or-take n xs 0 nan (omega arith), get_or-take n xs 1 nan (omega arith), get_or-take n xs 2 nan (omega arith), get_or-take n xs 3 nan (omega arith), get_or-take n xs 4 nan (omega arith), get_or-take n xs 5 nan (omega arith))

pub drop-take : (m n : ℕ) (xs : List Float) → drop m (take (m + n) xs) ≡ take n (drop m xs)
drop-take zero n xs = ap (λ (k : ℕ). take k xs) (zero-add n)
drop-take (suc m) n [] = ap (drop (suc m)) (take-nil (suc m + n)) ∙ sym (take-nil n)
drop-take (suc m) n (x ∷ xs) = ap (λ (k : ℕ). drop (suc m) (take k (x ∷ xs))) (suc-add m n) ∙ drop-take m n xs

pub planes-take : (i n : ℕ) (xs : List Float) → 6 * i ≤ n → planes_of i (take n xs) ≡ planes_of i xs
unfolding planes_of
planes-take zero n xs h = refl
planes-take (suc i) n xs h =
    let room : 6 ≤ n = omega arith in
    let split : 6 + (n - 6) ≡ n = omega arith in
    let left : 6 * i ≤ n - 6 = omega arith in
    rw (plane_at-take n xs room) (ap (λ (ps : List Plane). plane_at xs ∷ ps)
    (ap (λ (k : ℕ). planes_of i (drop 6 (take k xs))) (sym split) ∙ ap (planes_of i) (drop-take 6 (n - 6) xs) ∙ planes-take i (n - 6) (drop 6 xs) left))

pub planes-lent : (i : ℕ) (xs : List Float) → 6 * i ≤ length xs → planes_in (take (6 * i) xs) ≡ planes_of i xs
planes-lent i xs h =
    ap (λ (n : ℕ). planes_of (n / 6) (take (6 * i) xs)) (length-take-le (6 * i) xs h)
    ∙ ap (λ (n : ℕ). planes_of n (take (6 * i) xs)) (mul-div_cancel_left i (zero-lt-suc 5))
    ∙ planes-take i (6 * i) xs (le_refl (6 * i))

pub planes-length : (n : ℕ) (xs : List Float) → length (planes_of n xs) ≡ n
unfolding planes_of
planes-length zero xs = refl
planes-length (suc n) xs = ap suc (planes-length n (drop 6 xs))

-- a part that ends at an index holds the planes before it
pub ruleset parts = (planes-lent, planes-length)

-- ---- the list cut at an index

pub planes-first : (i n : ℕ) (xs : List Float) → i ≤ n → take i (planes_of n xs) ≡ planes_of i xs
unfolding planes_of
planes-first zero n xs h = refl
planes-first (suc i) zero xs h = absurd (not-suc-le-zero h)
planes-first (suc i) (suc n) xs h = ap (λ (ps : List Plane). plane_at xs ∷ ps) (planes-first i n (drop 6 xs) (le_of_suc-le-suc h))

pub planes-last : (i n : ℕ) (xs : List Float) → drop i (planes_of n xs) ≡ rest n i xs
unfolding rest planes_of
planes-last zero n xs = sym (rest_all n xs)
planes-last (suc i) zero xs = sym (rest-none 0 (suc i) xs zero-le)
planes-last (suc i) (suc n) xs =
    let next : 6 + 6 * i ≡ 6 * suc i = omega arith in
    let fewer : n - i ≡ suc n - suc i = omega arith in
    planes-last i n (drop 6 xs)
    ∙ ap (planes_of (n - i)) (drop-drop (6 * i) 6 xs ∙ ap (λ (k : ℕ). drop k xs) next)
    ∙ ap (λ (m : ℕ). planes_of m (drop (6 * suc i) xs)) fewer

-- ---- a loop over lent planes

-- what a loop over the first n planes still has to do at index i
unfoldable pub remaining : {State : Type 0} → (List Plane → Plane → State → State) → ℕ → ℕ → List Float → State → State
remaining step n i xs state = in_turn step (planes_of i xs) (rest n i xs) state

module _ {State : Type 0} (step : List Plane → Plane → State → State) (n : ℕ) where
  pub begin : (xs : List Float) (state : State) → remaining step n 0 xs state ≡ in_turn step [] (planes_of n xs) state
  unfolding remaining planes_of
  begin xs state = rw (rest_all n xs)

  -- a loop that starts at an index has passed the planes before it
  pub begin-at : (i : ℕ) (xs : List Float) (state : State) → remaining step n i xs state ≡ in_turn step (take i (planes_of n xs)) (drop i (planes_of n xs)) state
  unfolding remaining in_turn
  begin-at i xs state = go (leb i n) (leb→le i n) (nleb→lt i n)
    where
      go : (b : Bool) → (T b → i ≤ n) → (T (not b) → n < i) → remaining step n i xs state ≡ in_turn step (take i (planes_of n xs)) (drop i (planes_of n xs)) state
      go true below above = rw (planes-first i n xs (below tt), planes-last i n xs)
      go false below above = rw (planes-last i n xs, rest-none n i xs (le_of_lt (above tt)))

  -- a turn takes one constraint off what is left, and the answer stays the same
  pub turn : (i : ℕ) (xs : List Float) (state : State) → i < n → remaining step n i xs state ≡ remaining step n (i + 1) xs (step (planes_of i xs) (plane_at (drop (6 * i) xs)) state)
  unfolding remaining in_turn
  turn i xs state h = rw (rest-step n i xs h, passed-step i xs)

  -- the state after the last one is the answer
  pub end : (i : ℕ) (xs : List Float) (state : State) → n ≤ i → remaining step n i xs state ≡ state
  unfolding remaining in_turn
  end i xs state h = rw (rest-none n i xs h)

  -- and so is a state that every constraint keeps
  pub leave : (i : ℕ) (xs : List Float) (state : State) → ((passed : List Plane) (constraint : Plane) → step passed constraint state ≡ state) → remaining step n i xs state ≡ state
  unfolding remaining
  leave i xs state kept = stays step state kept (planes_of i xs) (rest n i xs)

pub ruleset in_turns = (begin-at, turn, end)
