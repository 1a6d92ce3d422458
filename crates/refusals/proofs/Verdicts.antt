-- What checks say, as conditions: a call is refused with N exactly when N's condition is the first that holds.
use mathlib.Core.Path.{◌≡◌, refl, sym, ap, ◌∙◌}
use mathlib.Core.Bool.{Bool, true, false, not, cond}
use mathlib.Core.List.{List, [], ◌∷◌, ◌++◌}
use Prim.Native.Nat.{ℕ}
use native.Mathlib.Omega.{arith}
use Rattle.refusals.specs.declared.Refusal.{Refusal}
use Rattle.refusals.specs.declared.Refusal.TheVariants as refusal
use Rattle.refusals.specs.Refusal.{number}
use Rattle.refusals.specs.Conditions.{first_holding, is_found}
use Rattle.refusals.specs.Verdict.{◌⊳◌, refused_if, refused_at, Verdict, passed}
use Rattle.refusals.proofs.Conditions.{or_else, holding-append}
use Rattle.std.specs.Prelude.{Option, Some, None, Ok, Err}

-- ---- passed or refused

-- no refusal has the number of an answer
pub not-answered : (r : Refusal) → number r ≡ 0 → ⊥
not-answered refusal.RaggedNeighbours e = omega arith
not-answered (refusal.ShortScratch needed) e = omega arith
not-answered (refusal.NotFinite place) e = omega arith
not-answered (refusal.OutOfRange place) e = omega arith
not-answered (refusal.BadFallback place) e = omega arith
not-answered (refusal.PlaneNotFinite neighbour) e = omega arith
not-answered refusal.NoVelocity e = omega arith
not-answered (refusal.NoAgent index) e = omega arith
not-answered (refusal.Full most) e = omega arith
not-answered refusal.TickOpen e = omega arith
not-answered refusal.NoTick e = omega arith
not-answered (refusal.Unplanned agent) e = omega arith
not-answered (refusal.PositionNotFinite agent) e = omega arith
not-answered (refusal.BadFile bytes) e = omega arith
not-answered (refusal.BadMargin place) e = omega arith
not-answered (refusal.ShortBuffer needed) e = omega arith
not-answered (refusal.TooManyNeighbours count) e = omega arith
not-answered (refusal.BadClamp plane) e = omega arith

pub not-passed : {P : Type 0} {r : Refusal} → Err r ≡ passed → P
not-passed e = let z : ◌≡◌ {A = ℕ} 0 1 = cc in absurd (omega arith)

-- checks pass where each of them does
pub both-passed : (v w : Verdict) → (v ⊳ w) ≡ passed → (v ≡ passed) × (w ≡ passed)
both-passed (Ok _) w e = (refl, e)
both-passed (Err r) w e = not-passed e

pub nothing-found : (found : Option ℕ) (refusal : ℕ → Refusal) → refused_at found refusal ≡ passed → found ≡ None
nothing-found (Some place) refusal e = not-passed e
nothing-found None refusal e = refl

pub does-not-hold : (b : Bool) (r : Refusal) → refused_if b r ≡ passed → b ≡ false
does-not-hold true r e = not-passed e
does-not-hold false r e = refl

pub test-passed : (passes : Bool) (r : Refusal) → cond passes passed (Err r) ≡ passed → passes ≡ true
test-passed true r e = refl
test-passed false r e = not-passed e

-- ---- what checks say

-- the number of the refusal
abbrev pub said : Verdict → Option ℕ
said (Ok _) = None
said (Err r) = Some (number r)

-- the conditions are those of the verdict
abbrev pub Says : Verdict → List (ℕ × Bool) → Type 0
Says v conditions = said v ≡ first_holding conditions

said-then : (v w : Verdict) → said (v ⊳ w) ≡ or_else (said v) (said w)
said-then (Ok _) w = refl
said-then (Err r) w = refl

pub then : (v w : Verdict) (cs ds : List (ℕ × Bool)) → Says v cs → Says w ds → Says (v ⊳ w) (cs ++ ds)
then v w cs ds e f = said-then v w ∙ ap (λ (found : Option ℕ). or_else found (said w)) e ∙ ap (or_else (first_holding cs)) f ∙ sym (holding-append cs ds)

-- where nothing is checked, no condition holds
pub none-says : Says passed []
unfolding first_holding
none-says = refl

-- refused exactly where the condition holds
pub held-says : (b : Bool) (r : Refusal) → Says (refused_if b r) ((number r, b) ∷ [])
unfolding first_holding
held-says true r = refl
held-says false r = refl

-- refused exactly where a test fails, of which the condition is the contrary
pub tested-says : (passes b : Bool) (r : Refusal) → b ≡ not passes → Says (cond passes passed (Err r)) ((number r, b) ∷ [])
unfolding first_holding
tested-says true true r e = let z : ◌≡◌ {A = ℕ} 0 1 = cc in absurd (omega arith)
tested-says true false r e = refl
tested-says false true r e = refl
tested-says false false r e = let z : ◌≡◌ {A = ℕ} 0 1 = cc in absurd (omega arith)

-- refused exactly where something was found
pub found-says : (found : Option ℕ) (refusal : ℕ → Refusal) (n : ℕ) (b : Bool) → ((place : ℕ) → number (refusal place) ≡ n) → is_found found ≡ b → Says (refused_at found refusal) ((n, b) ∷ [])
unfolding first_holding
found-says (Some place) refusal n true is e = ap Some (is place)
found-says (Some place) refusal n false is e = let z : ◌≡◌ {A = ℕ} 0 1 = cc in absurd (omega arith)
found-says None refusal n true is e = let z : ◌≡◌ {A = ℕ} 0 1 = cc in absurd (omega arith)
found-says None refusal n false is e = refl

-- ---- which refusals checks give

-- what holds of each refusal that they can give holds of the one they give
module _ (Q : Refusal → Type 0) where
  abbrev pub Gives : Verdict → Type 0
  Gives (Ok _) = Unit {0}
  Gives (Err r) = Q r

  pub gives_then : (v w : Verdict) → Gives v → Gives w → Gives (v ⊳ w)
  gives_then (Ok _) w first next = next
  gives_then (Err r) w first next = first

  pub gives-held : (b : Bool) (r : Refusal) → Q r → Gives (refused_if b r)
  gives-held true r q = q
  gives-held false r q = tt

  pub gives_found : (found : Option ℕ) (refusal : ℕ → Refusal) → ((place : ℕ) → found ≡ Some place → Q (refusal place)) → Gives (refused_at found refusal)
  gives_found (Some place) refusal q = q place refl
  gives_found None refusal q = tt
