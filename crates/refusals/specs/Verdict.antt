-- Checks one after another, and what comes of them.
use Rattle.std.specs.Prelude.{ℕ, Bool, cond, Option, Some, None, Result, Ok, Err}
use Rattle.refusals.specs.declared.Refusal.{Refusal}

-- what a call's checks say: nothing more, or why it is refused
abbrev pub Verdict : Type 0
Verdict = Result (Unit {0}) Refusal

abbrev pub passed : Verdict
passed = Ok tt

-- the first refusal decides
infixr 30 ◌⊳◌
abbrev pub ◌⊳◌ : Verdict → Verdict → Verdict
Ok _ ⊳ next = next
Err refusal ⊳ next = Err refusal

-- refused where a condition holds
abbrev pub refused_if : Bool → Refusal → Verdict
refused_if condition refusal = cond condition (Err refusal) passed

-- refused where something was found, with a refusal made of the place
abbrev pub refused_at : Option ℕ → (ℕ → Refusal) → Verdict
refused_at (Some place) refusal = Err (refusal place)
refused_at None refusal = passed

-- what a call comes to: something made of the refusal, or what it comes to where the checks passed
abbrev pub settled_by : {A : Type 0} → Verdict → (Refusal → A) → A → A
settled_by (Ok _) refused answer = answer
settled_by (Err refusal) refused answer = refused refusal
