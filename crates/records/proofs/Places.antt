-- The place of each refusal of a record, of a file and of a reader.
--     record-places, file-places, reader-places
use mathlib.Core.Path.{◌≡◌, refl, sym, ap, subst}
use mathlib.Core.Bool.{Bool, true, false, not, ◌&&◌, cond}
use mathlib.Core.List.{List, [], ◌∷◌}
use Prim.Native.Nat.{ℕ, zero, suc, ◌+◌, ◌*◌, ◌/◌, ◌%◌, ◌<◌}
use native.Mathlib.Nat.{not-suc-le-zero, le_of_suc-le-suc, zero-lt-suc, zero-add}
use native.Mathlib.Omega.{arith}
use lib.Dec.{leb, ltb, eqb}
use lib.ListN.{length, get_or}
use borrow.Author.Tests.{leb-false, eqb-true, eqb-false, not-true}
use Rattle.std.specs.Prelude.{Some, None, Ok, Err}
use Rattle.vectors.proofs.Truth.{both}
use Rattle.refusals.specs.declared.Refusal.{Refusal}
use Rattle.refusals.specs.declared.Refusal.TheVariants.{NotFinite, OutOfRange, BadFallback, NoAgent, BadFile, BadMargin}
use Rattle.refusals.specs.Refusal.{number, place_of}
use Rattle.refusals.specs.Conditions.{First, is_found, some, first_bad}
use Rattle.refusals.specs.Verdict.{Verdict, passed, ◌⊳◌, refused_if, refused_at}
use Rattle.refusals.proofs.Conditions.{no_place, same_place, found-lowest}
use Rattle.refusals.proofs.Verdicts.{Says, Gives, gives_then, gives-held, gives_found}
use Rattle.requests.specs.declared.Asked.TheVariants.{Finite, InRange}
use Rattle.requests.specs.Checks.{bad_fallback}
use Rattle.records.specs.declared.Record.{Record}
use Rattle.records.specs.Record.{most_agents, per_record, fallback_word, margin_word, distance_word, blank, word_at, fallback_of}
use Rattle.records.specs.Checks.{index_among, bad_margin, bad_word, record_verdict}
use Rattle.records.specs.File.{record_bytes, records_of, whole_file, records_verdict, file_verdict}
use Rattle.records.specs.Reader.{record_at, stored_verdict}
use Rattle.records.specs.Conditions.{record_conditions}
use Rattle.records.specs.Claims.{PlacedRecord, RecordPlaces, PlacedFile, FilePlaces, PlacedStored, ReaderPlaces}
use Rattle.records.proofs.Refusals.{record-says}

-- refused where a test fails
pub gives-tested : (Q : Refusal → Type 0) (passes : Bool) (why : Refusal) → Q why → Gives Q (cond passes passed (Err why))
gives-tested Q true why q = tt
gives-tested Q false why q = q

-- ---- a record

module _ (start : ℕ) (r : Record) where
  -- the number and the place of a refusal are among the record's
  abbrev InRecord : Refusal → Type 0
  InRecord why = PlacedRecord start r (number why) (place_of why)

  margin-placed : (place : ℕ) → bad_margin r ≡ Some place → PlacedRecord start r 15 (start + place)
  unfolding bad_margin
  margin-placed place =
      let margin = word_at r margin_word in
      go (leb margin 1) refl (eqb margin 0 && not (eqb (word_at r distance_word) 0)) refl
    where
      go : (small : Bool) → leb (word_at r margin_word) 1 ≡ small → (set : Bool) → eqb (word_at r margin_word) 0 && not (eqb (word_at r distance_word) 0) ≡ set
          → cond small (cond set (Some distance_word) None) (Some margin_word) ≡ Some place → PlacedRecord start r 15 (start + place)
      go true is true is_set e =
          let (unmargined, set) = both (eqb (word_at r margin_word) 0) (not (eqb (word_at r distance_word) 0)) is_set in
          subst (λ (word : ℕ). PlacedRecord start r 15 (start + word)) (same_place e)
          (PlacedRecord.bad-distance (eqb-true (word_at r margin_word) 0 unmargined) (eqb-false (word_at r distance_word) 0 (not-true _ set)))
      go true is false is_set e = no_place e
      go false is set is_set e = subst (λ (word : ℕ). PlacedRecord start r 15 (start + word)) (same_place e) (PlacedRecord.bad-margin (leb-false (word_at r margin_word) 1 is))

  record-gives : Gives InRecord (record_verdict start r)
  unfolding record_verdict
  record-gives =
      let unfit = refused_if (bad_fallback (fallback_of r)) (BadFallback (start + fallback_word)) in
      let ranged = first_bad (bad_word InRange) 0 r.words in
      let finite = first_bad (bad_word Finite) 0 r.words in
      let outside = refused_at ranged (λ place. OutOfRange (start + place)) in
      let unfinite = refused_at finite (λ place. NotFinite (start + place)) in
      gives_then InRecord (refused_at (bad_margin r) (λ place. BadMargin (start + place))) (unfinite ⊳ outside ⊳ unfit)
      (gives_found InRecord (bad_margin r) (λ place. BadMargin (start + place)) margin-placed)
      (gives_then InRecord unfinite (outside ⊳ unfit)
      (gives_found InRecord finite (λ place. NotFinite (start + place)) (λ place e. PlacedRecord.not_finite place (found-lowest (bad_word Finite) 0 r.words 0 place e)))
      (gives_then InRecord outside unfit
      (gives_found InRecord ranged (λ place. OutOfRange (start + place)) (λ place e. PlacedRecord.out_of_range place (found-lowest (bad_word InRange) 0 r.words 0 place e)))
      (gives-held InRecord (bad_fallback (fallback_of r)) (BadFallback (start + fallback_word)) PlacedRecord.bad-fallback)))

pub record-places : RecordPlaces
record-places start r why is = subst (Gives (InRecord start r)) is (record-gives start r)

-- ---- the first bad one of some records, of which word 0 of the first is at the place `start`

record FirstBad (start : ℕ) (rs : List Record) (n place : ℕ) : Type 0 where
  index : ℕ
  within : index < length rs
  none_before : (i : ℕ) → i < index → some (record_conditions (get_or rs i blank)) ≡ false
  own : First n (record_conditions (get_or rs index blank))
  placed : PlacedRecord (start + per_record * index) (get_or rs index blank) n place

-- what a record says that is refused, and one that passes
refused_says : (start : ℕ) (r : Record) (why : Refusal) → record_verdict start r ≡ Err why → First (number why) (record_conditions r)
refused_says start r why is = sym (subst (λ (v : Verdict). Says v (record_conditions r)) is (record-says start r))

passed-says : (start : ℕ) (r : Record) → record_verdict start r ≡ passed → some (record_conditions r) ≡ false
passed-says start r is = sym (ap is_found (subst (λ (v : Verdict). Says v (record_conditions r)) is (record-says start r)))

InRecords : ℕ → List Record → Refusal → Type 0
InRecords start rs why = FirstBad start rs (number why) (place_of why)

records-give : (start : ℕ) (rs : List Record) → Gives (InRecords start rs) (records_verdict start rs)
unfolding records_verdict InRecords
records-give start [] = tt
records-give start (r ∷ rs) = go (record_verdict start r) refl (records_verdict (start + per_record) rs) (records-give (start + per_record) rs)
  where
    go : (v : Verdict) → record_verdict start r ≡ v → (w : Verdict) → Gives (InRecords (start + per_record) rs) w → Gives (InRecords start (r ∷ rs)) (v ⊳ w)
    go (Ok _) is (Ok _) later = tt
    go (Ok _) is (Err why) later =
        let next : start + per_record + per_record * later.index ≡ start + per_record * suc later.index = omega arith in
        record {
          index = suc later.index;
          within = omega (arith, later.within);
          none_before = before later.index later.none_before;
          own = later.own;
          placed = subst (λ (place : ℕ). PlacedRecord place (get_or rs later.index blank) (number why) (place_of why)) next later.placed;
        }
      where
        before : (index : ℕ) → ((i : ℕ) → i < index → some (record_conditions (get_or rs i blank)) ≡ false) → (i : ℕ) → i < suc index → some (record_conditions (get_or (r ∷ rs) i blank)) ≡ false
        before index earlier zero h = passed-says start r is
        before index earlier (suc i) h = earlier i (le_of_suc-le-suc h)
    go (Err why) is w later =
        let here : start ≡ start + per_record * 0 = omega arith in
        record {
          index = 0;
          within = zero-lt-suc (length rs);
          none_before = λ i h. absurd (not-suc-le-zero h);
          own = refused_says start r why is;
          placed = subst (λ (place : ℕ). PlacedRecord place r (number why) (place_of why)) here (record-places start r why is);
        }

-- ---- a file

InFile : List ℕ → Refusal → Type 0
InFile file why = PlacedFile file (number why) (place_of why)

file-gives : (file : List ℕ) → Gives (InFile file) (file_verdict file)
unfolding file_verdict whole_file InFile InRecords
file-gives file =
    let n = length file / record_bytes in
    let rs = records_of file in
    let passes = eqb (length file % record_bytes) 0 && leb n most_agents in
    gives_then (InFile file) (cond passes passed (Err (BadFile (length file)))) (records_verdict 0 rs)
    (gives-tested (InFile file) passes (BadFile (length file)) PlacedFile.wrong-file)
    (go (records_verdict 0 rs) (records-give 0 rs))
  where
    go : (v : Verdict) → Gives (InRecords 0 (records_of file)) v → Gives (InFile file) v
    go (Ok _) first = tt
    go (Err why) first =
        PlacedFile.in-record (number why) (place_of why)
        (record {
          index = first.index;
          within = first.within;
          none_before = first.none_before;
          own = first.own;
          placed = subst (λ (place : ℕ). PlacedRecord place (get_or (records_of file) first.index blank) (number why) (place_of why)) (zero-add (per_record * first.index)) first.placed;
        })

pub file-places : FilePlaces
unfolding InFile
file-places file why is = subst (Gives (InFile file)) is (file-gives file)

-- ---- a reader

pub reader-places : ReaderPlaces
unfolding stored_verdict whole_file
reader-places file index why is =
    let n = length file / record_bytes in
    let start = per_record * index in
    let own = record_at file index in
    let passes = eqb (length file % record_bytes) 0 && leb n most_agents in
    let whole = cond passes passed (Err (BadFile (length file))) in
    let Q : Refusal → Type 0 = λ why. PlacedStored file index (number why) (place_of why) in
    subst (Gives Q) is
    (gives_then Q whole (index_among n index ⊳ record_verdict start own) (gives-tested Q passes (BadFile (length file)) PlacedStored.wrong-file)
    (gives_then Q (index_among n index) (record_verdict start own) (gives-tested Q (ltb index n) (NoAgent index) PlacedStored.no_record) (go (record_verdict start own) (record-gives start own))))
  where
    go : (v : Verdict) → Gives (InRecord (per_record * index) (record_at file index)) v → Gives (λ why. PlacedStored file index (number why) (place_of why)) v
    go (Ok _) placed = tt
    go (Err why) placed = PlacedStored.in-record (number why) (place_of why) placed
