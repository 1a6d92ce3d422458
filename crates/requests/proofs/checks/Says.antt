-- The checks give the refusal of the first condition that holds, and the lowest place of a bad number.
use mathlib.Core.Path.{◌≡◌, refl}
use mathlib.Core.Bool.{Bool}
use mathlib.Core.List.{List, [], ◌∷◌}
use Prim.Native.Nat.{ℕ}
use lib.Ieee.{Float, nan}
use Rattle.refusals.specs.declared.Refusal.{Refusal}
use Rattle.refusals.specs.declared.Refusal.TheVariants as refusal
use Rattle.refusals.specs.Conditions.{some, marked, first_bad, Lowest}
use Rattle.refusals.specs.Verdict.{◌⊳◌, refused_if, refused_at}
use Rattle.refusals.proofs.Conditions.{found-lowest}
use Rattle.refusals.proofs.Verdicts.{Says, then, held-says, found-says, Gives, gives_then, gives-held, gives_found}
use Rattle.requests.specs.declared.Request.{Request}
use Rattle.requests.specs.declared.Asked.{Asked}
use Rattle.requests.specs.declared.Asked.TheVariants.{Finite, InRange}
use Rattle.requests.specs.Lent.{agent_count}
use Rattle.requests.specs.Request.{fallback_place}
use Rattle.requests.specs.Checks.{bad_number, call_numbers, first_of, ragged, too_many, needed_scratch, short_scratch, bad_fallback, checks}
use Rattle.std.specs.Prelude.{Some}

pub checks-say : (request : Request) (neighbours : List Float) (k : ℕ)
    → Says (checks request neighbours k)
    ((1, ragged neighbours) ∷ (17, too_many neighbours) ∷ (2, short_scratch neighbours k) ∷ (3, some (marked (bad_number Finite) 0 (call_numbers request neighbours))) ∷ (4, some (marked (bad_number InRange) 0 (call_numbers request neighbours))) ∷ (5, bad_fallback request.fallback) ∷ [])
unfolding checks first_of
checks-say request neighbours k =
    let numbers = call_numbers request neighbours in
    let bad : Asked → Bool = λ asked. some (marked (bad_number asked) 0 numbers) in
    let unfit = refused_if (bad_fallback request.fallback) (refusal.BadFallback fallback_place) in
    let outside = refused_at (first_bad (bad_number InRange) 0 numbers) refusal.OutOfRange in
    let unfinite = refused_at (first_bad (bad_number Finite) 0 numbers) refusal.NotFinite in
    let short = refused_if (short_scratch neighbours k) (refusal.ShortScratch (needed_scratch neighbours)) in
    let many = refused_if (too_many neighbours) (refusal.TooManyNeighbours (agent_count neighbours)) in
    then (refused_if (ragged neighbours) refusal.RaggedNeighbours) (many ⊳ short ⊳ unfinite ⊳ outside ⊳ unfit) ((1, ragged neighbours) ∷ []) _ (held-says (ragged neighbours) refusal.RaggedNeighbours)
    (then many (short ⊳ unfinite ⊳ outside ⊳ unfit) ((17, too_many neighbours) ∷ []) _ (held-says (too_many neighbours) (refusal.TooManyNeighbours (agent_count neighbours)))
    (then short (unfinite ⊳ outside ⊳ unfit) ((2, short_scratch neighbours k) ∷ []) _ (held-says (short_scratch neighbours k) (refusal.ShortScratch (needed_scratch neighbours)))
    (then unfinite (outside ⊳ unfit) ((3, bad Finite) ∷ []) _ (found-says (first_bad (bad_number Finite) 0 numbers) refusal.NotFinite 3 (bad Finite) (λ place. refl) refl)
    (then outside unfit ((4, bad InRange) ∷ []) _ (found-says (first_bad (bad_number InRange) 0 numbers) refusal.OutOfRange 4 (bad InRange) (λ place. refl) refl)
    (held-says (bad_fallback request.fallback) (refusal.BadFallback fallback_place))))))

-- a property of the refusals that they give
pub checks-give : (Q : Refusal → Type 0) (request : Request) (neighbours : List Float) (k : ℕ)
    → Q refusal.RaggedNeighbours → Q (refusal.TooManyNeighbours (agent_count neighbours)) → Q (refusal.ShortScratch (needed_scratch neighbours))
    → ((place : ℕ) → first_of Finite request neighbours ≡ Some place → Q (refusal.NotFinite place))
    → ((place : ℕ) → first_of InRange request neighbours ≡ Some place → Q (refusal.OutOfRange place))
    → Q (refusal.BadFallback fallback_place) → Gives Q (checks request neighbours k)
unfolding checks
checks-give Q request neighbours k whole few long finite in-range fit =
    let unfit = refused_if (bad_fallback request.fallback) (refusal.BadFallback fallback_place) in
    let outside = refused_at (first_of InRange request neighbours) refusal.OutOfRange in
    let unfinite = refused_at (first_of Finite request neighbours) refusal.NotFinite in
    let short = refused_if (short_scratch neighbours k) (refusal.ShortScratch (needed_scratch neighbours)) in
    let many = refused_if (too_many neighbours) (refusal.TooManyNeighbours (agent_count neighbours)) in
    gives_then Q (refused_if (ragged neighbours) refusal.RaggedNeighbours) (many ⊳ short ⊳ unfinite ⊳ outside ⊳ unfit) (gives-held Q (ragged neighbours) refusal.RaggedNeighbours whole)
    (gives_then Q many (short ⊳ unfinite ⊳ outside ⊳ unfit) (gives-held Q (too_many neighbours) _ few)
    (gives_then Q short (unfinite ⊳ outside ⊳ unfit) (gives-held Q (short_scratch neighbours k) _ long)
    (gives_then Q unfinite (outside ⊳ unfit) (gives_found Q (first_of Finite request neighbours) refusal.NotFinite finite)
    (gives_then Q outside unfit (gives_found Q (first_of InRange request neighbours) refusal.OutOfRange in-range) (gives-held Q (bad_fallback request.fallback) _ fit)))))

pub lowest-number : (request : Request) (neighbours : List Float) (asked : Asked) (place : ℕ) → first_of asked request neighbours ≡ Some place → Lowest (bad_number asked) 0 (call_numbers request neighbours) nan place
unfolding first_of
lowest-number request neighbours asked place e = found-lowest (bad_number asked) 0 (call_numbers request neighbours) nan place e
