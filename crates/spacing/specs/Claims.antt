-- What is proved of the definitions, each statement under its name. The proofs are in `proofs/`.
use Rattle.std.specs.Prelude.{ℕ, ◌*◌, ◌%◌, ◌≤◌, ◌<◌, ◌≡◌, Bool, true, false, not, ◌&&◌, cond, List, [], ◌∷◌, ◌++◌, ◌↔◌, ℤ, pos, nat_abs, ◌*ℤ◌, eqb, length, get_or, take, Some, None, Ok, Err, Float}
use Rattle.std.specs.Float.{nan}
use Rattle.std.specs.Float.Ieee.Exact.{HasValue}
use Rattle.spacing.specs.declared.Sighting.{Sighting}
use Rattle.spacing.specs.declared.Tally.{Tally}
use Rattle.spacing.specs.Millimetres.{signed, apart, millimetres}
use Rattle.spacing.specs.Frame.{out_of_reach}
use Rattle.spacing.specs.Report.{smallest_of, report_of}
use Rattle.spacing.specs.Answers.{most_agents, most_frames, Answer, number, place_of}
use Rattle.spacing.specs.Tally.{begun, agents_of, stepped_by}

-- ---- whole millimetres

-- The whole number k is nearest to n / d, with the sign s: twice the distance is at most 1, and where it is 1, k is even. Distances are multiplied by d.
pub record NearestTo (s : Bool) (n d : ℕ) (k : ℤ) : Type 0 where
  pub near : 2 * apart (k *ℤ pos d) (signed s n) ≤ d
  pub even : 2 * apart (k *ℤ pos d) (signed s n) ≡ d → nat_abs k % 2 ≡ 0

-- Document 02's sentence: the millimetres of a number that is n / d, with the sign s, are nearest to 1000 times that, and no other whole number is.
-- Every finite number is such a fraction, at every exponent; of -0 it is 0 / 1.
abbrev pub NearestMillimetres : Type 0
NearestMillimetres =
    (x : Float) (s : Bool) (n d : ℕ) → 0 < d → HasValue x s n d
    → NearestTo s (1000 * n) d (millimetres x) × ((k : ℤ) → NearestTo s (1000 * n) d k → k ≡ millimetres x)

-- ---- the tally

-- the tally after a list of frames, taken in turn
unfoldable pub after : Tally → List (List Float) → Tally
after tally [] = tally
after tally (f ∷ fs) = after (stepped_by tally f).tally fs

abbrev pub with_accepted : Answer → List Float → List (List Float) → List (List Float)
with_accepted (Ok _) f fs = f ∷ fs
with_accepted (Err refusal) f fs = fs

-- those of them that it answers with 0, in their order
unfoldable pub accepted : Tally → List (List Float) → List (List Float)
accepted tally [] = []
accepted tally (f ∷ fs) = with_accepted (stepped_by tally f).answer f (accepted (stepped_by tally f).tally fs)

-- A tally that is begun and then takes each frame of any list, refused ones among them, has the report of the accepted ones.
abbrev pub TallyReport : Type 0
TallyReport =
    (agents limit : ℕ) (frames : List (List Float))
    → (after (begun agents limit).tally frames).report ≡ report_of limit (accepted (begun agents limit).tally frames)

-- whether every component is within reach
unfoldable pub all_within : List Float → Bool
all_within [] = true
all_within (x ∷ xs) = not (out_of_reach x) && all_within xs

-- the frames of the right length, with every component within reach
unfoldable pub sound_ones : ℕ → List (List Float) → List (List Float)
sound_ones agents [] = []
sound_ones agents (f ∷ fs) =
    cond (eqb (length f) (3 * agents) && all_within f) (f ∷ sound_ones agents fs) (sound_ones agents fs)

-- Those accepted are the sound ones, up to the last that a tally takes.
abbrev pub AcceptedAre : Type 0
AcceptedAre =
    (agents limit : ℕ) (frames : List (List Float)) → agents ≤ most_agents
    → accepted (begun agents limit).tally frames ≡ take most_frames (sound_ones agents frames)

-- ---- the smallest

abbrev pub Every : (Sighting → Type 0) → List Sighting → Type 0
Every P [] = Unit {0}
Every P (s ∷ ss) = P s × Every P ss

-- s is in the list, those before it are larger, and none after it is smaller
pub record FirstLeast (ss : List Sighting) (s : Sighting) : Type 0 where
  pub before : List Sighting
  pub later : List Sighting
  pub there : ss ≡ before ++ s ∷ later
  pub larger : Every (λ (t : Sighting). s.squared < t.squared) before
  pub none-smaller : Every (λ (t : Sighting). s.squared ≤ t.squared) later

-- The smallest of some sightings is the first of the least; there is one where there are any.
abbrev pub SmallestIs : Type 0
SmallestIs =
    (ss : List Sighting)
    → ((s : Sighting) → smallest_of ss ≡ Some s ↔ FirstLeast ss s) × (smallest_of ss ≡ None ↔ ss ≡ [])

-- ---- refusals

-- A tally begun for over 64 agents is refused with 9 at place 64, and is the one that is begun for none; no other is refused.
abbrev pub BegunForNone : Type 0
BegunForNone =
    (agents limit : ℕ)
    → (number (begun agents limit).answer ≡ 9 ↔ most_agents < agents)
    × (most_agents < agents → (place_of (begun agents limit).answer ≡ most_agents) × ((begun agents limit).tally ≡ (begun 0 limit).tally))
    × (agents ≤ most_agents → number (begun agents limit).answer ≡ 0)

-- a frame that is refused leaves every field of the tally as it was
abbrev pub RefusedFrameUnchanged : Type 0
RefusedFrameUnchanged =
    (tally : Tally) (frame : List Float) → (number (stepped_by tally frame).answer ≡ 0 → ⊥) → (stepped_by tally frame).tally ≡ tally

-- The conditions on a frame, each by itself. Its length is wrong; the last frame is taken; the component at k is the lowest out of reach.
abbrev pub WrongLengthOf : Tally → List Float → Type 0
WrongLengthOf tally frame = length frame ≡ 3 * agents_of tally → ⊥

abbrev pub FullTally : Tally → Type 0
FullTally tally = most_frames ≤ tally.report.frames

pub record LowestOut (frame : List Float) (k : ℕ) : Type 0 where
  pub there : k < length frame
  pub out : out_of_reach (get_or frame k nan) ≡ true
  pub none_before : (j : ℕ) → j < k → out_of_reach (get_or frame j nan) ≡ false

-- Each is given exactly when its condition holds and none before it does, with its place: 14, then 9, then 19.
pub record Exactly (tally : Tally) (frame : List Float) : Type 0 where
  pub refused-14 : number (stepped_by tally frame).answer ≡ 14 ↔ WrongLengthOf tally frame
  pub place-14 : number (stepped_by tally frame).answer ≡ 14 → place_of (stepped_by tally frame).answer ≡ length frame
  pub refused-9 : number (stepped_by tally frame).answer ≡ 9 ↔ (length frame ≡ 3 * agents_of tally) × FullTally tally
  pub place-9 : number (stepped_by tally frame).answer ≡ 9 → place_of (stepped_by tally frame).answer ≡ most_frames
  pub refused-19 :
      number (stepped_by tally frame).answer ≡ 19
      ↔ (length frame ≡ 3 * agents_of tally) × (FullTally tally → ⊥) × ((k : ℕ) × LowestOut frame k)
  pub place-19 : number (stepped_by tally frame).answer ≡ 19 → LowestOut frame (place_of (stepped_by tally frame).answer)
