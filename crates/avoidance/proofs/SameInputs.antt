-- 17 and 18 tell apart what document 01's 1 and 7 had together, and refuse no other call.
--     told-apart, document-one-holding: what that is made of, for plans
use mathlib.Core.Path.{◌≡◌, refl, sym, ap, ◌∙◌}
use mathlib.Core.Bool.{Bool, true, false, not, ◌||◌, cond}
use mathlib.Core.List.{List, [], ◌∷◌}
use mathlib.Core.Logic.{◌↔◌, ◌⊎◌, inl, inr}
use Prim.Native.Nat.{ℕ, suc}
use native.Mathlib.Nat.{zero-lt-suc}
use native.Mathlib.Omega.{arith}
use lib.Dec.{eqb}
use lib.Ieee.{Float}
use borrow.Author.Tests.{eqb-true}
use Rattle.vectors.specs.Vec3.{finite_vec}
use Rattle.refusals.specs.Conditions.{first_holding, some, marked}
use Rattle.refusals.proofs.Conditions.{no_place, same_place, found_as, renumbered-holding, joined-holding}
use Rattle.solver.specs.Solve.{solve}
use Rattle.requests.specs.declared.Request.{Request}
use Rattle.requests.specs.declared.Asked.TheVariants.{Finite, InRange}
use Rattle.requests.specs.Checks.{bad_number, call_numbers, ragged, too_many, short_scratch, bad_fallback}
use Rattle.requests.specs.Reply.{number}
use Rattle.planes.specs.Planes.{planes_of_call, bad_plane}
use Rattle.avoidance.specs.Velocity.{velocity_call}
use Rattle.avoidance.specs.Conditions.{bad_clamp, velocity_conditions, document_one_conditions, SameInputs}
use Rattle.avoidance.specs.Claims.{SameInputsRefused}
use Rattle.avoidance.proofs.Refusals.{refused-exactly}
use Rattle.std.specs.Prelude.{Option, Some, None}

-- the number that document 01 has for what is refused with a number
abbrev pub document_one : ℕ → ℕ
document_one n = cond (eqb n 17) 1 (cond (eqb n 18) 7 n)

only-17 : (n : ℕ) → document_one n ≡ 1 → (n ≡ 1) ⊎ (n ≡ 17)
only-17 n = go (eqb n 17) refl (eqb n 18)
  where
    go : (b : Bool) → eqb n 17 ≡ b → (c : Bool) → cond b 1 (cond c 7 n) ≡ 1 → (n ≡ 1) ⊎ (n ≡ 17)
    go true is c e = inr (eqb-true n 17 is)
    go false is true e = absurd (omega arith)
    go false is false e = inl e

only-18 : (n : ℕ) → document_one n ≡ 7 → (n ≡ 7) ⊎ (n ≡ 18)
only-18 n = go (eqb n 17) (eqb n 18) refl
  where
    go : (b c : Bool) → eqb n 18 ≡ c → cond b 1 (cond c 7 n) ≡ 7 → (n ≡ 7) ⊎ (n ≡ 18)
    go true c is e = absurd (omega arith)
    go false true is e = inr (eqb-true n 18 is)
    go false false is e = inl e

-- what was found has one of two numbers exactly where document 01's for it is the first of them
module _ (old new : ℕ) (old-kept : document_one old ≡ old) (new-was : document_one new ≡ old) (only : (n : ℕ) → document_one n ≡ old → (n ≡ old) ⊎ (n ≡ new)) where
  to-old : (found : Option ℕ) → (found ≡ Some old) ⊎ (found ≡ Some new) → found_as document_one found ≡ Some old
  to-old found (inl e) = ap (found_as document_one) e ∙ ap Some old-kept
  to-old found (inr e) = ap (found_as document_one) e ∙ ap Some new-was

  either-at : (n : ℕ) → (n ≡ old) ⊎ (n ≡ new) → (Some n ≡ Some old) ⊎ (Some n ≡ Some new)
  either-at n (inl e) = inl (ap Some e)
  either-at n (inr e) = inr (ap Some e)

  from_old : (found : Option ℕ) → found_as document_one found ≡ Some old → (found ≡ Some old) ⊎ (found ≡ Some new)
  from_old (Some n) e = either-at n (only n (same_place e))
  from_old None e = no_place e

-- an answer that is refused with what was found among the new conditions, where document 01's are these
module _ (answer : ℕ) (found : Option ℕ) (conditions : List (ℕ × Bool)) (refused : (n : ℕ) → (answer ≡ suc n) ↔ (found ≡ Some (suc n))) (same : first_holding conditions ≡ found_as document_one found) where
  found-either : (old new : ℕ) → (answer ≡ suc old) ⊎ (answer ≡ suc new) → (found ≡ Some (suc old)) ⊎ (found ≡ Some (suc new))
  found-either old new (inl e) = inl ((refused old).0 e)
  found-either old new (inr e) = inr ((refused new).0 e)

  answered-either : (old new : ℕ) → (found ≡ Some (suc old)) ⊎ (found ≡ Some (suc new)) → (answer ≡ suc old) ⊎ (answer ≡ suc new)
  answered-either old new (inl e) = inl ((refused old).1 e)
  answered-either old new (inr e) = inr ((refused new).1 e)

  pub told-apart : SameInputs answer conditions
  told-apart = (
    (λ either. same ∙ to-old 1 17 refl refl only-17 found (found-either 0 16 either), λ e. answered-either 0 16 (from_old 1 17 refl refl only-17 found (sym same ∙ e))),
    (λ either. same ∙ to-old 7 18 refl refl only-18 found (found-either 6 17 either), λ e. answered-either 6 17 (from_old 7 18 refl refl only-18 found (sym same ∙ e))),
  )

pub document-one-holding : (request : Request) (neighbours : List Float) (k : ℕ) → first_holding (document_one_conditions request neighbours k) ≡ found_as document_one (first_holding (velocity_conditions request neighbours k))
unfolding velocity_conditions document_one_conditions
document-one-holding request neighbours k =
    let numbers = call_numbers request neighbours in
    let planes = planes_of_call request neighbours in
    let solution = solve planes request.max_speed request.preferred in
    let between : List (ℕ × Bool) =
    (2, short_scratch neighbours k)
    ∷ (3, some (marked (bad_number Finite) 0 numbers))
    ∷ (4, some (marked (bad_number InRange) 0 numbers))
    ∷ (5, bad_fallback request.fallback)
    ∷ (6, some (marked bad_plane 0 planes))
    ∷ []
    in
    let clamp = bad_clamp solution.outcome in
    let unfinite = not (finite_vec solution.value) in
    sym
    (joined-holding [] 1 (ragged neighbours) (too_many neighbours) _
    ∙ joined-holding ((1, ragged neighbours || too_many neighbours) ∷ between) 7 clamp unfinite [])
    ∙ renumbered-holding document_one (velocity_conditions request neighbours k)

pub same-inputs-refused : SameInputsRefused
same-inputs-refused request neighbours k =
    told-apart (number (velocity_call request neighbours k)) (first_holding (velocity_conditions request neighbours k)) (document_one_conditions request neighbours k)
    (λ n. refused-exactly request neighbours k (suc n) (zero-lt-suc n)) (document-one-holding request neighbours k)
