-- What a line of a stored list says: a comment, or a key with fields after it, a space before each.
use Rattle.std.specs.Prelude.{ℕ, suc, ◌+◌, ◌-◌, ◌*◌, Bool, true, cond, List, [], ◌∷◌, ◌++◌, Option, Some, None, Result, unwrap_or, eqb, leb, ltb, length, get_or, take, drop}
use Rattle.std.specs.Option.{option_and_then, ok_or}
use Rattle.lines.specs.declared.Fields.{Fields}
use Rattle.lines.specs.declared.Malformed.{Malformed}

-- how many bytes stand before the first b
unfoldable pub length_until : ℕ → List ℕ → ℕ
length_until b [] = 0
length_until b (a ∷ s) = cond (eqb a b) 0 (suc (length_until b s))

-- a comment is empty or starts with `#`
unfoldable pub is_comment : List ℕ → Bool
is_comment s = cond (eqb (length s) 0) true (eqb (get_or s 0 0) 35)

-- what stands before the first space
unfoldable pub key_of : List ℕ → List ℕ
key_of s = take (length_until 32 s) s

-- what stands after the first space
unfoldable pub after_key : List ℕ → List ℕ
after_key s = drop (suc (length_until 32 s)) s

-- the value of a digit's ASCII code, `0` to `9` and `a` to `f`
unfoldable pub digit_of : ℕ → Option ℕ
digit_of b =
    cond (ltb b 48) None
    (cond (leb b 57) (Some (b - 48))
    (cond (ltb b 97) None
    (cond (leb b 102) (Some (b - 97 + 10)) None)))

-- the number that digits spell in a base, the most significant first, after those that spelled v
unfoldable pub spelled_in : ℕ → ℕ → List ℕ → Option ℕ
spelled_in base v [] = Some v
spelled_in base v (b ∷ s) = option_and_then (λ d. cond (leb base d) None (spelled_in base (v * base + d) s)) (digit_of b)

-- a word is eight hexadecimal digits
unfoldable pub word_of : List ℕ → Option ℕ
word_of s = cond (eqb (length s) 8) (spelled_in 16 0 s) None

-- a count is one to four decimal digits
unfoldable pub count_of : List ℕ → Option ℕ
count_of s = cond (eqb (length s) 0) None (cond (ltb 4 (length s)) None (spelled_in 10 0 s))

-- parts, of which the first has b before it
unfoldable pub begun_by : ℕ → List (List ℕ) → List (List ℕ)
begun_by b [] = (b ∷ []) ∷ []
begun_by b (p ∷ ps) = (b ∷ p) ∷ ps

-- the parts of s that a space stands between; a space at the end begins none
unfoldable pub parts : List ℕ → List (List ℕ)
parts [] = []
parts (b ∷ s) = cond (eqb b 32) ([] ∷ parts s) (begun_by b (parts s))

-- at most two counts, before all words
unfoldable pub with_count : Fields → ℕ → Option Fields
with_count f n =
    cond (ltb 0 (length f.words)) None
    (cond (leb 2 (length f.counts)) None
    (Some (record { counts = f.counts ++ n ∷ []; words = f.words })))

-- at most eight words
unfoldable pub with_word : Fields → ℕ → Option Fields
with_word f w =
    cond (leb 8 (length f.words)) None
    (Some (record { counts = f.counts; words = f.words ++ w ∷ [] }))

-- a field of eight bytes is to be a word, and any other a count
unfoldable pub with_field : Fields → List ℕ → Option Fields
with_field f s = cond (eqb (length s) 8) (option_and_then (with_word f) (word_of s)) (option_and_then (with_count f) (count_of s))

unfoldable pub with_fields : Fields → List (List ℕ) → Option Fields
with_fields f [] = Some f
with_fields f (p ∷ ps) = option_and_then (λ g. with_fields g ps) (with_field f p)

unfoldable pub no_fields : Fields
no_fields = record { counts = []; words = [] }

-- with those of the fields that can be read
unfoldable pub with_readable : Fields → List (List ℕ) → Fields
with_readable f [] = f
with_readable f (p ∷ ps) = with_readable (unwrap_or (with_field f p) f) ps

-- the fields of what stands after a key, if each can be read, and else those that can
unfoldable pub fields_of : List ℕ → Result Fields Malformed
fields_of s = ok_or (with_fields no_fields (parts s)) (record { fields = with_readable no_fields (parts s) })
