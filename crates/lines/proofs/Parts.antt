-- The fields of a text, by its first part and what stands behind the space after it.
use Rattle.std.proofs.Common.{ℕ, suc, ◌≡◌, ◌<◌, refl, Bool, true, false, cond, eqb, List, [], ◌∷◌, length, take, drop, length-drop, Some, None, unwrap_or, arith}
use Rattle.std.specs.Option.{option_and_then}
use Rattle.lines.specs.declared.Fields.{Fields}
use Rattle.lines.specs.Lines.{length_until, begun_by, parts, key_of, after_key, with_field, with_fields, with_readable}

-- the first part, where it starts with b, and those after it
picked :
    (b : ℕ) (s : List ℕ) → begun_by b (parts s) ≡ (b ∷ take (length_until 32 s) s) ∷ parts (drop (suc (length_until 32 s)) s) →
    (space : Bool) →
    cond space ([] ∷ parts s) (begun_by b (parts s)) ≡
    take (cond space 0 (suc (length_until 32 s))) (b ∷ s) ∷ parts (drop (suc (cond space 0 (suc (length_until 32 s)))) (b ∷ s))
picked b s more true = refl
picked b s more false = more

first : (b : ℕ) (s : List ℕ) → parts (b ∷ s) ≡ key_of (b ∷ s) ∷ parts (after_key (b ∷ s))
unfolding begun_by parts length_until key_of after_key
first b [] = picked b [] refl (eqb b 32)
first b (a ∷ s) = picked b (a ∷ s) (rw (first a s)) (eqb b 32)

next :
    (f : Fields) (s : List ℕ) → 0 < length s →
    with_fields f (parts s) ≡ option_and_then (λ g. with_fields g (parts (after_key s))) (with_field f (key_of s))
unfolding with_fields
next f [] h = absurd (omega arith)
next f (b ∷ s) h = rw (first b s)

next_readable :
    (f : Fields) (s : List ℕ) → 0 < length s →
    with_readable f (parts s) ≡ with_readable (unwrap_or (with_field f (key_of s)) f) (parts (after_key s))
unfolding with_readable
next_readable f [] h = absurd (omega arith)
next_readable f (b ∷ s) h = rw (first b s)

-- the first field can be read
pub one_read : (f g : Fields) (s : List ℕ) → 0 < length s → Some g ≡ with_field f (key_of s) → with_fields f (parts s) ≡ with_fields g (parts (after_key s))
one_read f g s h e = rw (next f s, ← e)

pub one_readable : (f g : Fields) (s : List ℕ) → 0 < length s → Some g ≡ with_field f (key_of s) → with_readable f (parts s) ≡ with_readable g (parts (after_key s))
one_readable f g s h e = rw (next_readable f s h, ← e)

-- it can't
pub one_malformed : (f : Fields) (s : List ℕ) → 0 < length s → None ≡ with_field f (key_of s) → with_fields f (parts s) ≡ None
one_malformed f s h e = rw (next f s, ← e)

pub one_passed_over : (f : Fields) (s : List ℕ) → 0 < length s → None ≡ with_field f (key_of s) → with_readable f (parts s) ≡ with_readable f (parts (after_key s))
one_passed_over f s h e = rw (next_readable f s h, ← e)

-- there is none
pub none_left : (f : Fields) (s : List ℕ) → length s ≡ 0 → with_fields f (parts s) ≡ Some f
unfolding with_fields parts
none_left f [] h = refl
none_left f (b ∷ s) h = absurd (omega arith)

pub none_readable : (f : Fields) (s : List ℕ) → length s ≡ 0 → with_readable f (parts s) ≡ f
unfolding with_readable parts
none_readable f [] h = refl
none_readable f (b ∷ s) h = absurd (omega arith)

pub shorter : (s : List ℕ) → 0 < length s → length (after_key s) < length s
unfolding after_key
shorter s h = rw length-drop (omega arith)

pub ruleset one_by_one = (one_read, one_readable, one_malformed, one_passed_over, none_left, none_readable, shorter)
