-- What the private functions of eight roots promise each other.
use Rattle.std.specs.Prelude.{◌≡◌, true, List, ℕ, ◌+◌, ◌*◌, ◌^◌, ◌≤◌, ◌<◌, length, Float}
use Rattle.vectors.specs.Number.{of_word, zero, one, ◌<ᶠ◌, ◌⊘◌}
use Rattle.vectors.specs.Root.{root, nearest_root}

abbrev pub Lanes : {A : Type 0} → List A → Type 0
Lanes xs = 8 ≡ length xs

abbrev pub EachLane : (ℕ → Type 0) → Type 0
EachLane P = (lane : ℕ) → lane < 8 → P lane

-- a claim of x, where it is positive and finite
abbrev pub Where : Float → Type 0 → Type 0
Where x P = zero <ᶠ x ≡ true → x <ᶠ one ⊘ zero ≡ true → P

-- a positive finite pattern stands for x
abbrev pub Stands : Float → ℕ → Type 0
Stands x word = (0 < word) × (word < 0x7F80_0000) × Where x (of_word word ≡ x)

-- a pattern to be the root of x
abbrev pub Fits : Float → ℕ → Type 0
Fits x word = (word < 0x7F80_0000) × Where x (of_word word ≡ root x)

-- what is rooted among the whole numbers for x, and what is then added to the root
abbrev pub Begins : Float → ℕ → ℕ → Type 0
Begins x rest high = (rest < 2 ^ 25) × (high ≤ 0x7F00_0000) × Fits x (high + nearest_root (rest * 2 ^ 23))
