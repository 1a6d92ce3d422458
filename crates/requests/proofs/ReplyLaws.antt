-- What the layers above need to know of a reply, so that none of them lists its cases.
--     refused_with: the number of its refusal; numbered, unrefused: how the reply's number tells it
use mathlib.Core.Path.{◌≡◌, refl, sym, ap, ◌∙◌}
use mathlib.Core.Bool.{Bool, true, false, cond, true≢false}
use mathlib.Core.List.{List, ◌++◌}
use mathlib.Core.Logic.{◌↔◌}
use Prim.Native.Nat.{ℕ, suc}
use native.Mathlib.Omega.{arith}
use lib.Dec.{eqb}
use lib.ListN.{get_or}
use borrow.Author.Tests.{eqb-true}
use Rattle.vectors.proofs.Truth.{no_truth}
use Rattle.refusals.specs.declared.Refusal.{Refusal}
use Rattle.refusals.specs.declared.Refusal.TheVariants.{PlaneNotFinite}
use Rattle.refusals.specs.Refusal as refusals
use Rattle.refusals.specs.Conditions.{first_holding}
use Rattle.refusals.specs.Verdict.{settled_by, Verdict, passed}
use Rattle.refusals.proofs.Conditions.{no_place, index_of, or_else, holding-append}
use Rattle.refusals.proofs.Verdicts.{not-answered, said, Says, Gives}
use Rattle.requests.specs.Reply.{is_answered, number, place_of, velocity_of, unseen_of, name_of, renamed_course, renamed_refusal, renamed, Reply}
use Rattle.requests.specs.Claims.{RefusedZeros}
use Rattle.std.specs.Prelude.{Option, Some, None, Ok, Err}

-- ---- what a reply says

-- the number of its refusal
abbrev pub refused_with : Reply → Option ℕ
refused_with (Ok course) = None
refused_with (Err r) = Some (refusals.number r)

said-first : (v : Verdict) (reply : Reply) → refused_with (settled_by v Err reply) ≡ or_else (said v) (refused_with reply)
said-first (Ok _) reply = refl
said-first (Err r) reply = refl

-- what comes before a reply says what it says, and then the reply does
pub reply-says : (v : Verdict) (reply : Reply) (cs ds : List (ℕ × Bool)) → Says v cs → refused_with reply ≡ first_holding ds → refused_with (settled_by v Err reply) ≡ first_holding (cs ++ ds)
reply-says v reply cs ds e f = said-first v reply ∙ ap (λ (found : Option ℕ). or_else found (refused_with reply)) e ∙ ap (or_else (first_holding cs)) f ∙ sym (holding-append cs ds)

-- a reply has the number n + 1 exactly where it is refused with it
pub numbered : (reply : Reply) (n : ℕ) → (number reply ≡ suc n) ↔ (refused_with reply ≡ Some (suc n))
numbered (Ok course) n = (λ e. absurd (omega arith), λ e. no_place e)
numbered (Err r) n = (λ e. ap Some e, λ e. ap index_of e)

-- and the number 0 where it is not refused
pub unrefused : (reply : Reply) → (number reply ≡ 0) ↔ (refused_with reply ≡ None)
unrefused (Ok course) = (λ e. refl, λ e. refl)
unrefused (Err r) = (λ e. absurd (not-answered r e), λ e. no_place (sym e))

pub number-refused : (reply : Reply) → (number reply ≡ 0 → ⊥) → is_answered reply ≡ false
number-refused (Ok course) refused = absurd (refused refl)
number-refused (Err r) refused = refl

pub answered-passed : (v : Verdict) (reply : Reply) → is_answered (settled_by v Err reply) ≡ true → v ≡ passed
answered-passed (Ok _) reply e = refl
answered-passed (Err r) reply e = no_truth e

-- ---- what holds of a reply that is refused

pub refused-zeros : RefusedZeros
refused-zeros (Ok course) refused = absurd (refused refl)
refused-zeros (Err r) refused = refl

pub refused_none : (reply : Reply) → is_answered reply ≡ false → unseen_of reply ≡ None
refused_none (Ok course) e = absurd (true≢false e)
refused_none (Err r) e = refl

-- a property of its refusal
abbrev pub GivenBy : (Refusal → Type 0) → Reply → Type 0
GivenBy Q (Ok course) = Unit {0}
GivenBy Q (Err r) = Q r

pub settled-gives : (Q : Refusal → Type 0) (v : Verdict) (reply : Reply) → Gives Q v → GivenBy Q reply → GivenBy Q (settled_by v Err reply)
settled-gives Q (Ok _) reply first next = next
settled-gives Q (Err r) reply first next = first

-- ---- neighbours by other names

same-refusal : (names : List ℕ) (r : Refusal) → refusals.number (renamed_refusal names r) ≡ refusals.number r
unfolding renamed_refusal
same-refusal names r = go (eqb (refusals.number r) 6) refl
  where
    go : (b : Bool) → eqb (refusals.number r) 6 ≡ b → refusals.number (cond b (PlaneNotFinite (name_of names (refusals.place_of r))) r) ≡ refusals.number r
    go true is = sym (eqb-true _ _ is)
    go false is = refl

pub renamed-number : (names : List ℕ) (reply : Reply) → number (renamed names reply) ≡ number reply
unfolding renamed
renamed-number names (Ok course) = refl
renamed-number names (Err r) = same-refusal names r

pub renamed-refused : (names : List ℕ) (reply : Reply) → refused_with (renamed names reply) ≡ refused_with reply
unfolding renamed
renamed-refused names (Ok course) = refl
renamed-refused names (Err r) = ap Some (same-refusal names r)

pub renamed-answered : (names : List ℕ) (reply : Reply) → is_answered (renamed names reply) ≡ is_answered reply
unfolding renamed
renamed-answered names (Ok course) = refl
renamed-answered names (Err r) = refl

pub renamed-velocity : (names : List ℕ) (reply : Reply) → velocity_of (renamed names reply) ≡ velocity_of reply
unfolding renamed renamed_course
renamed-velocity names (Ok course) = refl
renamed-velocity names (Err r) = refl

-- only 6 names a neighbour
pub renamed-place : (names : List ℕ) (reply : Reply) → (number reply ≡ 6 → ⊥) → place_of (renamed names reply) ≡ place_of reply
unfolding renamed renamed_refusal
renamed-place names (Ok course) other = refl
renamed-place names (Err r) other = go (eqb (refusals.number r) 6) refl
  where
    go : (b : Bool) → eqb (refusals.number r) 6 ≡ b → refusals.place_of (cond b (PlaneNotFinite (name_of names (refusals.place_of r))) r) ≡ refusals.place_of r
    go true is = absurd (other (eqb-true _ _ is))
    go false is = refl

-- and 6 does
pub bad-plane-renamed : (names : List ℕ) (reply : Reply) → number reply ≡ 6 → place_of (renamed names reply) ≡ get_or names (place_of reply) 0
unfolding renamed renamed_refusal name_of
bad-plane-renamed names (Ok course) e = absurd (omega (arith, e))
bad-plane-renamed names (Err why) e = rw e
