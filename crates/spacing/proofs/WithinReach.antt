-- A frame that is let through fits the tally, and has every component within reach.
use mathlib.Core.Path.{◌≡◌, refl}
use mathlib.Core.Bool.{Bool, true, false, cond, not}
use mathlib.Core.List.{List, [], ◌∷◌}
use Prim.Native.Nat.{ℕ, zero, suc, ◌*◌, ◌≤◌, ◌<◌}
use native.Mathlib.Omega.{arith}
use lib.Dec.{leb, eqb}
use lib.ListN.{length, get_or}
use lib.Ieee.{Float, nan}
use borrow.Author.Tests.{eqb-true, leb-false}
use Rattle.std.specs.Prelude.{Err}
use Rattle.spacing.specs.declared.Refusal.{Refusal}
use Rattle.spacing.specs.declared.Refusal.TheVariants.{WrongLength, TooManyFrames, OutOfReach}
use Rattle.spacing.specs.Frame.{out_of_reach}
use Rattle.spacing.specs.Answers.{most_agents, most_frames, Answer, done}
use Rattle.spacing.specs.Tally.{within_reach, frame_answer}
use Rattle.spacing.specs.parts.Frame.{FitFrame}

-- a test that refuses said no, and the rest is done
pub let_through : (b : Bool) (refusal : Refusal) (rest : Answer) → cond b (Err refusal) rest ≡ done → (b ≡ false) × (rest ≡ done)
let_through true refusal rest e = cc
let_through false refusal rest e = (refl, e)

pub reached : (place : ℕ) (xs : List Float) → within_reach place xs ≡ done → (k : ℕ) → k < length xs → out_of_reach (get_or xs k nan) ≡ false
unfolding within_reach
reached place [] e k h = absurd (omega arith)
reached place (x ∷ xs) e zero h = (let_through (out_of_reach x) (OutOfReach place) (within_reach (suc place) xs) e).0
reached place (x ∷ xs) e (suc k) h = reached (suc place) xs (let_through (out_of_reach x) (OutOfReach place) (within_reach (suc place) xs) e).1 k (omega arith)

pub reached_at : (frame : List Float) (k : ℕ) → within_reach 0 frame ≡ done → k < length frame → out_of_reach (get_or frame k nan) ≡ false
reached_at frame k e h = reached 0 frame e k h

pub ruleset reached_frames = (reached_at)

-- ---- a frame that is taken has the right length, comes in time and is within reach

module _ (agents frames : ℕ) (frame : List Float) where
  passed : frame_answer agents frames frame ≡ done → (length frame ≡ 3 * agents) × (frames < most_frames) × (within_reach 0 frame ≡ done)
  unfolding frame_answer
  passed e =
      let fits = let_through (not (eqb (length frame) (3 * agents))) (WrongLength (length frame)) _ e in
      let early = let_through (leb most_frames frames) TooManyFrames _ fits.1 in
      (long (eqb (length frame) (3 * agents)) refl fits.0, leb-false most_frames frames early.0, early.1)
    where
      long : (b : Bool) → eqb (length frame) (3 * agents) ≡ b → not b ≡ false → length frame ≡ 3 * agents
      long true is e = eqb-true (length frame) (3 * agents) is
      long false is e = cc

  pub passed-fit : agents ≤ most_agents → frame_answer agents frames frame ≡ done → FitFrame agents frame
  passed-fit few e = let right = passed e in record { few = few; long = right.0; within = right.2 }

  pub passed-early : frame_answer agents frames frame ≡ done → frames < most_frames
  passed-early e = (passed e).1

pub ruleset passed_frames = (passed-fit, passed-early)
