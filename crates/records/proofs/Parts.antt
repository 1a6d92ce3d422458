-- The parts of a list of bytes: how many there are, the next one, the one at an index, and the array that is made of them.
use mathlib.Core.Path.{◌≡◌, refl, sym, ap, subst, ◌∙◌}
use mathlib.Core.Logic.{inl, inr}
use mathlib.Core.List.{List, [], ◌∷◌, ◌++◌}
use Prim.Native.Nat.{ℕ, zero, suc, ◌+◌, ◌-◌, ◌*◌, ◌≤◌, ◌<◌}
use native.Mathlib.Nat.{eq-or-lt_of_le, not-suc-le-zero, le_of_suc-le-suc, mul-suc, mul-zero, add_comm}
use native.Mathlib.Numerals.{add-one}
use native.Mathlib.Omega.{arith}
use denote.Param.Members.{Mut, Called}
use lib.ListN.{length, get_or, drop}
use lib.Seq.{drop-drop}
use Rattle.std.specs.Array.{IsFromFnResultFrom, IsFromFnResult}
use Rattle.std.proofs.lemmas.List.{ext_get_or}
use Rattle.records.specs.Record.{per_record}
use Rattle.records.specs.File.{parts_in, words_in, record_in}

module _ {A : Type 0} (size : ℕ) (read : List ℕ → A) where
  pub parts-length : (n : ℕ) (bytes : List ℕ) → length (parts_in size read n bytes) ≡ n
  unfolding parts_in
  parts-length zero bytes = refl
  parts-length (suc n) bytes = ap suc (parts-length n (drop size bytes))

  pub parts_next : (n i : ℕ) (bytes : List ℕ) → i < n
      → parts_in size read (n - i) (drop (size * i) bytes) ≡ read (drop (size * i) bytes) ∷ parts_in size read (n - (i + 1)) (drop (size * (i + 1)) bytes)
  unfolding parts_in
  parts_next n i bytes h =
      let left : n - i ≡ suc (n - (i + 1)) = omega arith in
      let next : size * i + size ≡ size * (i + 1) = sym (mul-suc size i) ∙ ap (λ (m : ℕ). size * m) (sym (add-one i)) in
      rw left (ap (λ (rest : List ℕ). read (drop (size * i) bytes) ∷ parts_in size read (n - (i + 1)) rest) (drop-drop size (size * i) bytes ∙ ap (λ (m : ℕ). drop m bytes) next))

  pub part_at : (n i : ℕ) (bytes : List ℕ) (d : A) → i < n → get_or (parts_in size read n bytes) i d ≡ read (drop (size * i) bytes)
  unfolding parts_in
  part_at zero i bytes d h = absurd (not-suc-le-zero h)
  part_at (suc n) zero bytes d h = ap (λ (m : ℕ). read (drop m bytes)) (sym (mul-zero size))
  part_at (suc n) (suc i) bytes d h =
      let next : size + size * i ≡ size * suc i = add_comm size (size * i) ∙ sym (mul-suc size i) in
      part_at n i (drop size bytes) d (le_of_suc-le-suc h) ∙ ap read (drop-drop (size * i) size bytes ∙ ap (λ (m : ℕ). drop m bytes) next)

  -- one part more
  pub parts_more : (n : ℕ) (bytes : List ℕ) → parts_in size read (suc n) bytes ≡ parts_in size read n bytes ++ (read (drop (size * n) bytes) ∷ [])
  unfolding parts_in
  parts_more zero bytes = ap (λ (m : ℕ). read (drop m bytes) ∷ []) (sym (mul-zero size))
  parts_more (suc n) bytes =
      let next : size + size * n ≡ size * suc n = add_comm size (size * n) ∙ sym (mul-suc size n) in
      ap (λ (rest : List A). read bytes ∷ rest) (parts_more n (drop size bytes) ∙ ap (λ (rest : List ℕ). parts_in size read n (drop size bytes) ++ (read rest ∷ [])) (drop-drop (size * n) size bytes ∙ ap (λ (m : ℕ). drop m bytes) next))

  -- an array of n that is made by calls which leave the closure as it was, and each read the part at their index
  module _ {F : Type 0} (g : Mut F (ℕ × Unit {0}) A) (f : F) (bytes : List ℕ) (calls : (i : ℕ) (a : A) (f' : F) → Called g f (i, tt) a f' → (f' ≡ f) × (a ≡ read (drop (size * i) bytes))) where
    made-each : (made : List A) (from n : ℕ) → IsFromFnResultFrom g f made from n → (i : ℕ) (d : A) → from ≤ i → i < from + n → get_or made i d ≡ read (drop (size * i) bytes)
    made-each made from zero each i d low high = absurd (omega arith)
    made-each made from (suc n) (f', a, at, called, later) i d low high =
        let (same, is) = calls from a f' called in
        elim (eq-or-lt_of_le low) [
          | inl e ↦ subst (λ (k : ℕ). get_or made k d ≡ read (drop (size * k) bytes)) e (at.1 d ∙ is)
          | inr after ↦ made-each made (from + 1) n (subst (λ (state : F). IsFromFnResultFrom g state made (from + 1) n) same later) i d (omega (arith, after)) (omega arith)
        ]

    pub parts-made : (made : List A) (n : ℕ) → A → IsFromFnResult g f made n → made ≡ parts_in size read n bytes
    parts-made made n d result =
        ext_get_or d made (parts_in size read n bytes) (result.long ∙ sym (parts-length n bytes))
        (λ i h. let there : i < n = omega (arith, result.long) in made-each made 0 n result.each i d (omega arith) (omega arith) ∙ sym (part_at n i bytes d there))

-- a record's words are in its bytes, one after another
pub words-of-record : (bytes : List ℕ) → (record_in bytes).words ≡ words_in per_record bytes
unfolding record_in
words-of-record bytes = refl
