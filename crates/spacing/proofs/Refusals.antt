-- A tally and a frame are refused exactly when document 02 says, with its number and place, and a refused frame changes nothing.
use Prim.Native.Nat.{ℕ, zero, suc, ◌+◌, ◌*◌, ◌≤◌, ◌<◌}
use mathlib.Core.Path.{◌≡◌, refl, subst}
use mathlib.Core.Bool.{Bool, true, false, not, ◌&&◌, cond}
use mathlib.Core.List.{List, [], ◌∷◌}
use mathlib.Core.Logic.{◌↔◌}
use native.Mathlib.Omega.{arith}
use lib.Dec.{leb, eqb}
use lib.ListN.{length, get_or}
use lib.Ieee.{Float, nan}
use Rattle.std.specs.Prelude.{Ok, Err}
use borrow.Author.Tests.{leb-true, leb-false, eqb-true, eqb-false}
use Rattle.spacing.specs.declared.Refusal.TheVariants.{TooManyAgents, WrongLength, TooManyFrames, OutOfReach}
use Rattle.spacing.specs.declared.Tally.{Tally}
use Rattle.spacing.specs.declared.Tallied.{Tallied}
use Rattle.spacing.specs.Frame.{out_of_reach}
use Rattle.spacing.specs.Answers.{most_agents, most_frames, Answer, done, number, place_of}
use Rattle.spacing.specs.Tally.{fresh, begun, within_reach, frame_answer, agents_of, tally_after, stepped_by}
use Rattle.spacing.specs.Claims.{all_within, BegunForNone, RefusedFrameUnchanged, LowestOut, Exactly}

-- ---- begun

pub begun-for-none : BegunForNone
unfolding begun number place_of
begun-for-none agents limit = go (leb agents most_agents) refl
  where
    none : Tallied
    none = record { answer = Err TooManyAgents; tally = fresh 0 limit }

    tallied : Bool → Tallied
    tallied b = cond b (record { answer = done; tally = fresh agents limit }) none

    go : (b : Bool) → leb agents most_agents ≡ b
        → (number (tallied b).answer ≡ 9 ↔ most_agents < agents)
        × (most_agents < agents → (place_of (tallied b).answer ≡ most_agents) × ((tallied b).tally ≡ fresh 0 limit))
        × (agents ≤ most_agents → number (tallied b).answer ≡ 0)
    go true e = let few = leb-true agents most_agents e in (omega arith, λ h. absurd (omega arith), λ h. refl)
    go false e =
        let many = leb-false agents most_agents e in
        ((λ h. many, λ h. refl), λ h. (refl, refl), λ h. absurd (omega arith))

-- ---- a refused frame

pub refused-frame-unchanged : RefusedFrameUnchanged
unfolding stepped_by number tally_after
refused-frame-unchanged tally frame = go (frame_answer (agents_of tally) tally.report.frames frame)
  where
    go : (answer : Answer) → (number answer ≡ 0 → ⊥) → tally_after answer tally frame ≡ tally
    go (Ok _) refused = absurd (refused refl)
    go (Err refusal) refused = refl

-- ---- within reach

-- one component out of reach is enough
pub not_within : (frame : List Float) (k : ℕ) → k < length frame → out_of_reach (get_or frame k nan) ≡ true
    → all_within frame ≡ false
unfolding all_within
not_within [] k h out = absurd (omega arith)
not_within (x ∷ xs) zero h out = rw out
not_within (x ∷ xs) (suc k) h out = go (out_of_reach x) (not_within xs k (omega arith) out)
  where
    go : (b : Bool) → all_within xs ≡ false → not b && all_within xs ≡ false
    go true e = refl
    go false e = e

-- the answer to components of which the first is at `place`
data Reached (place : ℕ) (xs : List Float) : Answer → Type 0 where
  inside : all_within xs ≡ true → Reached place xs done
  outside : (k at : ℕ) → at ≡ place + k → LowestOut xs k → Reached place xs (Err (OutOfReach at))

reached : (place : ℕ) (xs : List Float) → Reached place xs (within_reach place xs)
unfolding within_reach all_within
reached place [] = inside refl
reached place (x ∷ xs) = go (out_of_reach x) refl (reached (suc place) xs)
  where
    lowest : (k : ℕ) → out_of_reach x ≡ false → LowestOut xs k → LowestOut (x ∷ xs) (suc k)
    lowest k e low = record { there = omega arith; out = low.out; none_before = before }
      where
        before : (j : ℕ) → j < suc k → out_of_reach (get_or (x ∷ xs) j nan) ≡ false
        before zero h = e
        before (suc j) h = low.none_before j (omega arith)

    go : {answer : Answer} (b : Bool) → out_of_reach x ≡ b → Reached (suc place) xs answer
        → Reached place (x ∷ xs) (cond b (Err (OutOfReach place)) answer)
    go true e r =
        outside 0 place (omega arith) (record { there = omega arith; out = e; none_before = λ j h. absurd (omega arith) })
    go false e (inside all) = inside (rw e all)
    go false e (outside k at is low) = outside (suc k) at (omega arith) (lowest k e low)

-- ---- a frame's answer

-- the four answers to a frame, each with what it takes
pub data Answered (agents frames : ℕ) (frame : List Float) : Answer → Type 0 where
  wrong-length : (length frame ≡ 3 * agents → ⊥) → Answered agents frames frame (Err (WrongLength (length frame)))
  full : length frame ≡ 3 * agents → most_frames ≤ frames → Answered agents frames frame (Err TooManyFrames)
  out-of-reach : length frame ≡ 3 * agents → frames < most_frames → (k : ℕ) → LowestOut frame k
      → Answered agents frames frame (Err (OutOfReach k))
  taken : length frame ≡ 3 * agents → frames < most_frames → all_within frame ≡ true → Answered agents frames frame done

pub answered : (agents frames : ℕ) (frame : List Float) → Answered agents frames frame (frame_answer agents frames frame)
unfolding frame_answer
answered agents frames frame = go (eqb (length frame) (3 * agents)) (leb most_frames frames) refl refl (reached 0 frame)
  where
    go : {answer : Answer} (same all : Bool) → eqb (length frame) (3 * agents) ≡ same → leb most_frames frames ≡ all
        → Reached 0 frame answer
        → Answered agents frames frame (cond (not same) (Err (WrongLength (length frame))) (cond all (Err TooManyFrames) answer))
    go false all e e' r = wrong-length (eqb-false (length frame) (3 * agents) e)
    go true true e e' r = full (eqb-true (length frame) (3 * agents) e) (leb-true most_frames frames e')
    go true false e e' (inside within) =
        taken (eqb-true (length frame) (3 * agents) e) (leb-false most_frames frames e') within
    go true false e e' (outside k at is low) =
        let there : LowestOut frame at = subst (LowestOut frame) (omega arith) low in
        out-of-reach (eqb-true (length frame) (3 * agents) e) (leb-false most_frames frames e') at there

-- what `Exactly` says, of any answer: what is arithmetic, and the two that name a component
abbrev Told : ℕ → ℕ → List Float → Answer → Type 0
Told agents frames frame answer =
    ((number answer ≡ 14 ↔ (length frame ≡ 3 * agents → ⊥))
    × (number answer ≡ 14 → place_of answer ≡ length frame)
    × (number answer ≡ 9 ↔ (length frame ≡ 3 * agents) × most_frames ≤ frames)
    × (number answer ≡ 9 → place_of answer ≡ most_frames))
    × (number answer ≡ 19 ↔ (length frame ≡ 3 * agents) × (most_frames ≤ frames → ⊥) × ((k : ℕ) × LowestOut frame k))
    × (number answer ≡ 19 → LowestOut frame (place_of answer))

told : {agents frames : ℕ} {frame : List Float} {answer : Answer} → Answered agents frames frame answer
    → Told agents frames frame answer
unfolding number place_of
told (wrong-length h) = (omega arith, (λ e. absurd (omega arith), λ c. omega arith), λ e. absurd (omega arith))
told (full h h') = (omega arith, (λ e. absurd (omega arith), λ c. omega arith), λ e. absurd (omega arith))
told (out-of-reach h h' k low) = (omega arith, (λ e. (h, omega arith, (k, low)), λ c. refl), λ e. low)
told {frame = frame} (taken h h' within) =
    let none_out : (k : ℕ) → LowestOut frame k → ◌≡◌ {A = ℕ} 0 19 =
    λ k low. let out = not_within frame k low.there low.out in cc in
    (omega arith, (λ e. absurd (omega arith), λ c. none_out c.2.0 c.2.1), λ e. absurd (omega arith))

pub exactly : (tally : Tally) (frame : List Float) → Exactly tally frame
unfolding stepped_by
exactly tally frame =
    let (plain, refused, place) = told (answered (agents_of tally) tally.report.frames frame) in
    record {
      refused-14 = plain.0;
      place-14 = plain.1;
      refused-9 = plain.2;
      place-9 = plain.3;
      refused-19 = refused;
      place-19 = place;
    }
