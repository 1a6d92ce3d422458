-- What a call is to leave in its scratch, by documents 01 and 02.
use Rattle.std.specs.Prelude.{◌≡◌, ℕ, ◌+◌, ◌*◌, ◌%◌, ◌^◌, ◌<◌, Bool, cond, ◌||◌, List, ◌==◌, nat_lt, slice_index_or, Float}
use Rattle.std.specs.Float.{nan}
use Rattle.vectors.specs.Number.{of_word, to_word}

-- the word at i before the call, where the first is w; a NaN has one word only
unfoldable pub word_before : ℕ → ℕ → ℕ
word_before w i = to_word (of_word ((w + i) % 2 ^ 32))

-- 6, 7 and 18 leave +0s only
unfoldable pub clears : ℕ → Bool
clears number = number == 6 || number == 7 || number == 18

-- the word at i after the answer `number` on n neighbours: 0 leaves their planes and then as many +0s, and the other refusals what was there; so does every answer past 12 n
unfoldable pub wanted_word : ℕ → ℕ → List Float → ℕ → ℕ → ℕ
wanted_word number n planes w i =
    cond (nat_lt i (12 * n))
    (cond (number == 0)
    (cond (nat_lt i (6 * n)) (to_word (slice_index_or planes i nan)) 0)
    (cond (clears number) 0 (word_before w i)))
    (word_before w i)

-- the first n numbers of scratch are the words that are wanted there
abbrev pub AsWanted : (ℕ → ℕ) → List Float → ℕ → Type 0
AsWanted wanted scratch n = (k : ℕ) → k < n → to_word (slice_index_or scratch k nan) ≡ wanted k
