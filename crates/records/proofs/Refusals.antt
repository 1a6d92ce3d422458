-- The checks of a record, of a file and of a reader refuse with N exactly when N's condition of `specs/Conditions.antt` is the first that holds.
--     record-exactly, file-exactly, reader-exactly; record-says and its like are the same for the layers above
use mathlib.Core.Path.{◌≡◌, refl, sym, ap, ◌∙◌}
use mathlib.Core.Bool.{Bool, true, false, not, ◌&&◌, ◌||◌, cond}
use mathlib.Core.List.{List, [], ◌∷◌}
use Prim.Native.Nat.{ℕ, zero, suc, ◌+◌, ◌*◌, ◌/◌, ◌%◌}
use native.Mathlib.Omega.{arith}
use lib.Dec.{leb, ltb, eqb}
use lib.ListN.{length}
use borrow.Author.Tests.{ltb-true, ltb-false, leb-true, leb-false, lt-ltb, le-ltb, le-leb, lt-leb, ne_eqb}
use Rattle.std.specs.Prelude.{Some, None, Ok, Err}
use Rattle.vectors.proofs.Truth.{no_truth}
use Rattle.refusals.specs.declared.Refusal.TheVariants.{NotFinite, OutOfRange, BadFallback, NoAgent, BadFile, BadMargin}
use Rattle.refusals.specs.Conditions.{is_found, some, marked, first_bad}
use Rattle.refusals.specs.Verdict.{Verdict, ◌⊳◌, refused_if, refused_at}
use Rattle.refusals.proofs.Conditions.{no_place, same_place}
use Rattle.refusals.proofs.Verdicts.{not-answered, Says, then, held-says, tested-says, found-says, none-says}
use Rattle.requests.specs.declared.Asked.{Asked}
use Rattle.requests.specs.declared.Asked.TheVariants.{Finite, InRange}
use Rattle.requests.specs.Checks.{bad_fallback}
use Rattle.records.specs.declared.Record.{Record}
use Rattle.records.specs.Record.{most_agents, per_record, fallback_word, margin_word, distance_word, word_at, fallback_of}
use Rattle.records.specs.Checks.{index_among, bad_margin, bad_word, record_verdict}
use Rattle.records.specs.File.{record_bytes, records_of, whole_file, records_verdict, file_verdict}
use Rattle.records.specs.Reader.{record_at, stored_verdict}
use Rattle.records.specs.Conditions.{margin_wrong, record_conditions, records_conditions, wrong_file, file_conditions, reader_conditions}
use Rattle.records.specs.Claims.{Exactly, RecordExactly, FileExactly, ReaderExactly}

-- ---- one test is the other's contrary

le_not_lt : (a b : ℕ) → leb b a ≡ not (ltb a b)
le_not_lt a b = go (ltb a b) refl
  where
    go : (t : Bool) → ltb a b ≡ t → leb b a ≡ not t
    go true e = lt-leb b a (ltb-true a b e)
    go false e = le-leb b a (ltb-false a b e)

lt_not_le : (a b : ℕ) → ltb b a ≡ not (leb a b)
lt_not_le a b = go (leb a b) refl
  where
    go : (t : Bool) → leb a b ≡ t → ltb b a ≡ not t
    go true e = le-ltb b a (leb-true a b e)
    go false e = lt-ltb b a (leb-false a b e)

-- ---- records

margin-found : (r : Record) → is_found (bad_margin r) ≡ margin_wrong r
unfolding bad_margin margin_wrong
margin-found r = go (word_at r margin_word) (eqb (word_at r distance_word) 0)
  where
    go : (m : ℕ) (b : Bool) → is_found (cond (leb m 1) (cond (eqb m 0 && not b) (Some distance_word) None) (Some margin_word)) ≡ not (eqb m 0 || eqb m 1) || (eqb m 0 && not b)
    go zero true = refl
    go zero false = refl
    go (suc zero) b = refl
    go (suc (suc m)) b = rw (lt-leb (suc (suc m)) 1 (omega arith), ne_eqb (suc (suc m)) 0 (λ e. omega arith), ne_eqb (suc (suc m)) 1 (λ e. omega arith))

pub record-says : (start : ℕ) (r : Record) → Says (record_verdict start r) (record_conditions r)
unfolding record_verdict record_conditions
record-says start r =
    let bad : Asked → Bool = λ asked. some (marked (bad_word asked) 0 r.words) in
    let unfit = refused_if (bad_fallback (fallback_of r)) (BadFallback (start + fallback_word)) in
    let outside = refused_at (first_bad (bad_word InRange) 0 r.words) (λ place. OutOfRange (start + place)) in
    let unfinite = refused_at (first_bad (bad_word Finite) 0 r.words) (λ place. NotFinite (start + place)) in
    let margin = refused_at (bad_margin r) (λ place. BadMargin (start + place)) in
    then margin (unfinite ⊳ outside ⊳ unfit) ((15, margin_wrong r) ∷ []) _ (found-says (bad_margin r) (λ place. BadMargin (start + place)) 15 (margin_wrong r) (λ place. refl) (margin-found r))
    (then unfinite (outside ⊳ unfit) ((3, bad Finite) ∷ []) _ (found-says (first_bad (bad_word Finite) 0 r.words) (λ place. NotFinite (start + place)) 3 (bad Finite) (λ place. refl) refl)
    (then outside unfit ((4, bad InRange) ∷ []) _ (found-says (first_bad (bad_word InRange) 0 r.words) (λ place. OutOfRange (start + place)) 4 (bad InRange) (λ place. refl) refl)
    (held-says (bad_fallback (fallback_of r)) (BadFallback (start + fallback_word)))))

pub records-say : (start : ℕ) (rs : List Record) → Says (records_verdict start rs) (records_conditions rs)
unfolding records_verdict records_conditions
records-say start [] = none-says
records-say start (r ∷ rs) =
    then (record_verdict start r) (records_verdict (start + per_record) rs) (record_conditions r) (records_conditions rs) (record-says start r) (records-say (start + per_record) rs)

-- ---- files

pub whole_says : (file : List ℕ) → Says (whole_file (length file)) ((14, wrong_file file) ∷ [])
unfolding whole_file wrong_file
whole_says file =
    let n = length file / record_bytes in
    let whole = eqb (length file % record_bytes) 0 in
    tested-says (whole && leb n most_agents) (not whole || ltb most_agents n) (BadFile (length file)) (go n whole)
  where
    go : (n : ℕ) (b : Bool) → not b || ltb most_agents n ≡ not (b && leb n most_agents)
    go n true = lt_not_le n most_agents
    go n false = refl

pub file-says : (file : List ℕ) → Says (file_verdict file) (file_conditions file)
unfolding file_verdict file_conditions
file-says file =
    then (whole_file (length file)) (records_verdict 0 (records_of file)) ((14, wrong_file file) ∷ []) (records_conditions (records_of file)) (whole_says file) (records-say 0 (records_of file))

pub among-says : (count index : ℕ) → Says (index_among count index) ((8, leb count index) ∷ [])
among-says count index = tested-says (ltb index count) (leb count index) (NoAgent index) (le_not_lt index count)

stored-says : (file : List ℕ) (index : ℕ) → Says (stored_verdict file index) (reader_conditions file index)
unfolding stored_verdict reader_conditions
stored-says file index =
    let count = length file / record_bytes in
    let there = index_among count index in
    let own = record_verdict (per_record * index) (record_at file index) in
    then (whole_file (length file)) (there ⊳ own) ((14, wrong_file file) ∷ []) _ (whole_says file)
    (then there own ((8, leb count index) ∷ []) (record_conditions (record_at file index)) (among-says count index) (record-says (per_record * index) (record_at file index)))

-- ---- by number

says-exactly : (v : Verdict) (cs : List (ℕ × Bool)) → Says v cs → Exactly v cs
says-exactly (Ok _) cs says = record {
  refused = λ n more. (λ e. absurd (omega (arith, e, more)), λ h. no_place (says ∙ h));
  passed = (λ e. ap is_found (sym says), λ none. refl);
}
says-exactly (Err why) cs says = record {
  refused = λ n more. (λ e. sym says ∙ ap Some e, λ h. same_place (says ∙ h));
  passed = (λ e. absurd (not-answered why e), λ none. no_truth (sym none ∙ ap is_found (sym says)));
}

pub record-exactly : RecordExactly
record-exactly start r = says-exactly (record_verdict start r) (record_conditions r) (record-says start r)

pub file-exactly : FileExactly
file-exactly file = says-exactly (file_verdict file) (file_conditions file) (file-says file)

pub reader-exactly : ReaderExactly
reader-exactly file index = says-exactly (stored_verdict file index) (reader_conditions file index) (stored-says file index)
