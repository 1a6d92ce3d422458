-- Goals: those held in a tick and taken up at once are those set one after another.
use mathlib.Core.Path.{◌≡◌, refl, sym, ap, ◌∙◌}
use mathlib.Core.Bool.{Bool, true, false, ◌&&◌}
use mathlib.Core.List.{List, [], ◌∷◌, ◌++◌}
use Prim.Native.Nat.{ℕ, zero, suc, ◌<◌, ◌≤◌}
use native.Mathlib.Nat.{not-suc-le-zero, le_of_suc-le-suc}
use native.Mathlib.Omega.{arith}
use lib.ListN.{length, get_or, set, replicate, length-set}
use Rattle.std.specs.Prelude.{Option, Some, None, Ok, Err}
use Rattle.vectors.specs.declared.Vec3.{Vec3}
use Rattle.vectors.proofs.Truth.{no_truth, both}
use Rattle.refusals.specs.declared.Refusal.TheVariants.{NotFinite}
use Rattle.refusals.specs.Verdict.{refused_at, Verdict, passed}
use Rattle.refusals.proofs.Verdicts.{both-passed}
use Rattle.records.specs.declared.Record.{Record}
use Rattle.records.specs.Record.{blank, with_goal}
use Rattle.records.specs.Checks.{index_among}
use Rattle.records.proofs.Goals.{goal-over}
use Rattle.fleet.specs.declared.Fleet.{Fleet}
use Rattle.fleet.specs.Table.{holding_nothing, fleet_of, settled}
use Rattle.fleet.specs.Tick.{each, goal_fault, goal_verdict, with_held, goal_set, goal_call, goal_taken, goals_taken}
use Rattle.fleet.specs.Calls.{Call, step}
use Rattle.fleet.specs.Runs.{after, goal_calls}
use Rattle.fleet.proofs.Verdicts.{among-passed}
use Rattle.fleet.proofs.Each.{each_at, each_set}

-- ---- goals in call order

unfoldable pub hold_all : List (Option Vec3) → List (ℕ × Vec3) → List (Option Vec3)
hold_all held [] = held
hold_all held ((index, v) ∷ goals) = hold_all (with_held held index v) goals

pub hold-append : (held : List (Option Vec3)) (gs hs : List (ℕ × Vec3)) → hold_all held (gs ++ hs) ≡ hold_all (hold_all held gs) hs
unfolding hold_all
hold-append held [] hs = refl
hold-append held ((index, v) ∷ gs) hs = hold-append (with_held held index v) gs hs

-- one after another
unfoldable pub applied : List Record → List (ℕ × Vec3) → List Record
applied rs [] = rs
applied rs ((index, v) ∷ goals) = applied (set rs index (with_goal v (get_or rs index blank))) goals

-- a goal takes the place of an earlier one
taken-over : (v : Vec3) (r : Record) (held : Option Vec3) → with_goal v (goal_taken r held) ≡ with_goal v r
unfolding goal_taken
taken-over v r None = refl
taken-over v r (Some u) = goal-over u v r

-- ---- goals that are accepted among n agents

unfoldable pub passes : Verdict → Bool
passes (Ok _) = true
passes (Err r) = false

pub is-passed : (v : Verdict) → passes v ≡ true → v ≡ passed
unfolding passes
is-passed (Ok _) e = refl
is-passed (Err r) e = no_truth e

unfoldable pub all_fit : ℕ → List (ℕ × Vec3) → Bool
all_fit n [] = true
all_fit n ((index, v) ∷ goals) = passes (goal_verdict n index v) && all_fit n goals

pub fit_append : (n : ℕ) (gs hs : List (ℕ × Vec3)) → all_fit n gs ≡ true → all_fit n hs ≡ true
    → all_fit n (gs ++ hs) ≡ true
unfolding all_fit
fit_append n [] hs e f = f
fit_append n ((index, v) ∷ gs) hs e f = let (one, more) = both (passes (goal_verdict n index v)) (all_fit n gs) e in rw (one, fit_append n gs hs more f)

pub fit-index : (n index : ℕ) (v : Vec3) → goal_verdict n index v ≡ passed → index < n
unfolding goal_verdict
fit-index n index v e = among-passed n index (both-passed (index_among n index) (refused_at (goal_fault v) NotFinite) e).0

pub held-length : (held : List (Option Vec3)) (index : ℕ) (v : Vec3) → length (with_held held index v) ≡ length held
unfolding with_held
held-length held index v = length-set held index (Some v)

taken-one : (rs : List Record) (held : List (Option Vec3)) (index : ℕ) (v : Vec3) → index < length rs → index < length held
    → goals_taken rs (with_held held index v) ≡ set (goals_taken rs held) index (with_goal v (get_or (goals_taken rs held) index blank))
unfolding goals_taken with_held goal_taken
taken-one rs held index v there room =
    each_set goal_taken rs held index (Some v) blank there room
    ∙ ap (set (each goal_taken rs held) index) (sym (ap (with_goal v) (each_at goal_taken rs held index blank None blank there room) ∙ taken-over v (get_or rs index blank) (get_or held index None)))

-- held goals taken up at once are those taken up one after another
pub taken-applied : (rs : List Record) (held : List (Option Vec3)) (gs : List (ℕ × Vec3)) → length rs ≤ length held → all_fit (length rs) gs ≡ true
    → goals_taken rs (hold_all held gs) ≡ applied (goals_taken rs held) gs
unfolding hold_all applied all_fit
taken-applied rs held [] room fits = refl
taken-applied rs held ((index, v) ∷ gs) room fits =
    let (one, more) = both (passes (goal_verdict (length rs) index v)) (all_fit (length rs) gs) fits in
    let there = fit-index (length rs) index v (is-passed _ one) in
    taken-applied rs (with_held held index v) gs (omega (arith, held-length held index v)) more ∙ ap (λ (l : List Record). applied l gs) (taken-one rs held index v there (omega arith))

-- ---- a fleet outside a tick

-- nothing held is nothing taken up
pub taken_none : (n : ℕ) (rs : List Record) → length rs ≤ n → goals_taken rs (replicate n None) ≡ rs
unfolding goals_taken each goal_taken
taken_none zero [] h = refl
taken_none zero (r ∷ rs) h = absurd (not-suc-le-zero h)
taken_none (suc n) [] h = refl
taken_none (suc n) (r ∷ rs) h = ap (λ (l : List Record). r ∷ l) (taken_none n rs (le_of_suc-le-suc h))

goal-shut : (rs : List Record) (index : ℕ) (v : Vec3) → goal_verdict (length rs) index v ≡ passed
    → (step (fleet_of rs) (Call.goal index v)).fleet ≡ fleet_of (set rs index (with_goal v (get_or rs index blank)))
unfolding step goal_call settled goal_set holding_nothing
goal-shut rs index v are-passed =
    ap (λ (w : Verdict). (settled w (fleet_of rs) (fleet_of (set rs index (with_goal v (get_or rs index blank))))).fleet) are-passed

pub goals-shut : (rs : List Record) (gs : List (ℕ × Vec3)) → all_fit (length rs) gs ≡ true
    → after (fleet_of rs) (goal_calls gs) ≡ fleet_of (applied rs gs)
unfolding after goal_calls applied all_fit
goals-shut rs [] fits = refl
goals-shut rs ((index, v) ∷ gs) fits =
    let (one, more) = both (passes (goal_verdict (length rs) index v)) (all_fit (length rs) gs) fits in
    let next = set rs index (with_goal v (get_or rs index blank)) in
    ap (λ (fleet : Fleet). after fleet (goal_calls gs)) (goal-shut rs index v (is-passed _ one))
    ∙ goals-shut next gs (ap (λ (n : ℕ). all_fit n gs) (length-set rs index (with_goal v (get_or rs index blank))) ∙ more)
