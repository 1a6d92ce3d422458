-- A text that is put behind the first n places of a line.
use Rattle.std.proofs.Common.{ℕ, ◌≡◌, ◌+◌, ◌-◌, ◌≤◌, min, sym, ap, ◌∙◌, List, ◌++◌, length, take, drop, replicate, arith, drop-drop, length-take-le}
use Rattle.std.proofs.lemmas.List.{take_min, drop-replicate}
use Rattle.std.proofs.lemmas.Slice.{take-put_mid, drop-put_mid}
use borrow.Rule.Slice.PartMut.{put_mid}

-- the places past it stay 0
pub rest_kept :
    (most n f k : ℕ) (xs ys : List ℕ) → n ≤ length xs → drop n xs ≡ replicate (most - n) 0 → k ≡ f → length ys ≡ f →
    drop (n + f) (put_mid n k xs ys) ≡ replicate (most - (n + f)) 0
rest_kept most n f k xs ys within rest same long =
    drop-put_mid n k xs ys (n + f) (omega arith) within (long ∙ sym same)
    ∙ sym (drop-drop f n xs) ∙ ap (drop f) rest ∙ drop-replicate f (most - n) 0
    ∙ ap (λ (m : ℕ). replicate m 0) (omega arith)

-- it stands behind them
pub text_behind :
    (most n f k : ℕ) (xs ys text : List ℕ) → n ≤ length xs → ys ≡ take f text → length ys ≡ f → f ≡ min (length text) (most - n) →
    take (n + f) (put_mid n k xs ys) ≡ take n xs ++ take (most - length (take n xs)) text
text_behind most n f k xs ys text within is long fits =
    take-put_mid n k xs ys (n + f) (omega (arith, long)) within
    ∙ ap (λ (zs : List ℕ). take n xs ++ zs)
    (is ∙ ap (λ (m : ℕ). take m text) (fits ∙ min_comm) ∙ take_min (most - n) text ∙ ap (λ (m : ℕ). take (most - m) text) (sym (length-take-le n xs within)))
  where
    min_comm : min (length text) (most - n) ≡ min (most - n) (length text)
    min_comm = omega arith

pub ruleset text_put = (rest_kept, text_behind)
