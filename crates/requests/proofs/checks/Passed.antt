-- What passed checks say, and that of scratch they read only whether it is enough.
use mathlib.Core.Path.{◌≡◌, refl, sym, ◌∙◌}
use mathlib.Core.Bool.{Bool, true, false, true≢false}
use mathlib.Core.List.{List}
use Prim.Native.Nat.{ℕ, ◌≤◌}
use lib.Ieee.{Float, lt, of_bits}
use borrow.Author.Tests.{ltb-false, le-ltb}
use Rattle.vectors.specs.declared.Vec3.{Vec3}
use Rattle.vectors.specs.Vec3.{all_zero}
use Rattle.vectors.proofs.vector.NotZero.{zero-dot}
use Rattle.refusals.specs.declared.Refusal.TheVariants.{RaggedNeighbours, TooManyNeighbours, ShortScratch, NotFinite, OutOfRange, BadFallback}
use Rattle.refusals.specs.Verdict.{◌⊳◌, refused_if, refused_at, Verdict, passed}
use Rattle.refusals.proofs.Verdicts.{both-passed, does-not-hold}
use Rattle.requests.specs.declared.Request.{Request}
use Rattle.requests.specs.declared.Asked.TheVariants.{Finite, InRange}
use Rattle.requests.specs.Lent.{agent_count}
use Rattle.requests.specs.Request.{fallback_place}
use Rattle.requests.specs.Checks.{first_of, ragged, too_many, needed_scratch, short_scratch, bad_fallback, checks}

-- the checks but for the scratch's
abbrev other_checks : Request → List Float → Verdict
other_checks request neighbours =
    refused_at (first_of Finite request neighbours) NotFinite
    ⊳ refused_at (first_of InRange request neighbours) OutOfRange
    ⊳ refused_if (bad_fallback request.fallback) (BadFallback fallback_place)

-- what passed checks say
module _ (request : Request) (neighbours : List Float) (k : ℕ) (are-passed : checks request neighbours k ≡ passed) where
  abbrev whole : Verdict
  whole = refused_if (ragged neighbours) RaggedNeighbours

  abbrev few : Verdict
  few = refused_if (too_many neighbours) (TooManyNeighbours (agent_count neighbours))

  abbrev long : Verdict
  long = refused_if (short_scratch neighbours k) (ShortScratch (needed_scratch neighbours))

  whole-and-rest : (whole ≡ passed) × ((few ⊳ long ⊳ other_checks request neighbours) ≡ passed)
  unfolding checks
  whole-and-rest = both-passed whole (few ⊳ long ⊳ other_checks request neighbours) are-passed

  few-and-rest : (few ≡ passed) × ((long ⊳ other_checks request neighbours) ≡ passed)
  few-and-rest = both-passed few (long ⊳ other_checks request neighbours) whole-and-rest.1

  long-and-rest : (long ≡ passed) × (other_checks request neighbours ≡ passed)
  long-and-rest = both-passed long (other_checks request neighbours) few-and-rest.1

  -- the scratch is long enough
  pub passed-fits : needed_scratch neighbours ≤ k
  passed-fits = ltb-false k (needed_scratch neighbours) (does-not-hold (short_scratch neighbours k) (ShortScratch (needed_scratch neighbours)) long-and-rest.0)

  -- the fallback is a direction
  pub passed-fallback : bad_fallback request.fallback ≡ false
  passed-fallback =
      let unfinite = refused_at (first_of Finite request neighbours) NotFinite in
      let outside = refused_at (first_of InRange request neighbours) OutOfRange in
      let unfit = refused_if (bad_fallback request.fallback) (BadFallback fallback_place) in
      does-not-hold (bad_fallback request.fallback) (BadFallback fallback_place) (both-passed outside unfit (both-passed unfinite (outside ⊳ unfit) long-and-rest.1).1).1

-- a fallback that is accepted is not zero
pub fallback-not-zero : (fallback : Vec3) → bad_fallback fallback ≡ false → all_zero fallback ≡ false
unfolding bad_fallback
fallback-not-zero fallback fit = go (all_zero fallback) refl
  where
    short : bad_fallback fallback ≡ true → bad_fallback fallback ≡ false → true ≡ false
    short bad good = sym bad ∙ good

    go : (b : Bool) → all_zero fallback ≡ b → b ≡ false
    go true e = absurd (true≢false (short (rw (zero-dot fallback e) (unfold lt of_bits in refl)) fit))
    go false e = refl

-- any scratch that is enough is checked alike
pub checks-enough : (request : Request) (neighbours : List Float) (k more : ℕ) → needed_scratch neighbours ≤ k → needed_scratch neighbours ≤ more → checks request neighbours k ≡ checks request neighbours more
unfolding checks
checks-enough request neighbours k more fits fits' = rw (le-ltb k (needed_scratch neighbours) fits, le-ltb more (needed_scratch neighbours) fits')
