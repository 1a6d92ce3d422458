-- Conditions, each with its number, and the first of them that holds; the elements of a list, each with its index, and the first that is bad.
use Rattle.std.specs.Prelude.{ℕ, suc, ◌+◌, ◌<◌, ◌≡◌, Bool, true, false, cond, List, [], ◌∷◌, length, get_or, Option, Some, None}

-- the number of the first that holds
unfoldable pub first_holding : List (ℕ × Bool) → Option ℕ
first_holding [] = None
first_holding ((n, b) ∷ conditions) = cond b (Some n) (first_holding conditions)

-- the first that holds has the number n
abbrev pub First : ℕ → List (ℕ × Bool) → Type 0
First n conditions = first_holding conditions ≡ Some n

abbrev pub is_found : Option ℕ → Bool
is_found (Some n) = true
is_found None = false

-- one of them holds
abbrev pub some : List (ℕ × Bool) → Bool
some conditions = is_found (first_holding conditions)

-- of each element of a list, the first of which has the index i, whether it is bad
unfoldable pub marked : {A : Type 0} → (ℕ → A → Bool) → ℕ → List A → List (ℕ × Bool)
marked bad i [] = []
marked bad i (x ∷ xs) = (i, bad i x) ∷ marked bad (suc i) xs

-- the index of the first that is bad
abbrev pub first_bad : {A : Type 0} → (ℕ → A → Bool) → ℕ → List A → Option ℕ
first_bad bad i xs = first_holding (marked bad i xs)

-- what that means: the element at that place, which counts from `start`, is bad, and none before it is (d stands for what is past the list's end, and is never read)
pub record Lowest {A : Type 0} (bad : ℕ → A → Bool) (start : ℕ) (xs : List A) (d : A) (place : ℕ) : Type 0 where
  pub index : ℕ
  pub at : place ≡ start + index
  pub within : index < length xs
  pub is-bad : bad (start + index) (get_or xs index d) ≡ true
  pub none_before : (i : ℕ) → i < index → bad (start + i) (get_or xs i d) ≡ false
