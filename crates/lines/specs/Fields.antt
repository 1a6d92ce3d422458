-- What a contract sees of the fields of a line: two lists, each kept in places that are 0 past its end.
use Rattle.std.specs.Prelude.{ℕ, ◌≡◌, ◌-◌, ◌≤◌, List, ◌++◌, length, take, drop, replicate}
use Rattle.std.proofs.Common.{◌∙◌, ap, sym, take-append-drop, length-take-le}

pub record Lists : Type 0 where
  pub counts : List ℕ
  pub words : List ℕ

-- so many places, which begin with xs and are 0 from there on
abbrev pub filled : ℕ → List ℕ → List ℕ
filled most xs = xs ++ replicate (most - length xs) 0

-- so many places are 0 past the first n
abbrev pub IsFilled : ℕ → ℕ → List ℕ → Type 0
IsFilled most n xs = (n ≤ length xs) × (length xs ≡ most) × (drop n xs ≡ replicate (most - n) 0)

-- what stands in such places gives them back
pub filled_back : (most n : ℕ) (xs : List ℕ) → IsFilled most n xs → filled most (take n xs) ≡ xs
filled_back most n xs h =
    ap (λ k. take n xs ++ replicate (most - k) 0) (length-take-le n xs h.0) ∙ ap (λ rest. take n xs ++ rest) (sym h.2) ∙ take-append-drop n xs
