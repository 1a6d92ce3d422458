-- A tally that is begun and takes frames has the report of those that it accepts, which are the sound ones up to the last that it takes.
use Prim.Native.Nat.{ℕ, suc, ◌+◌, ◌-◌, ◌*◌, ◌≤◌, ◌<◌, min}
use mathlib.Core.Path.{◌≡◌, refl, ap, ◌∙◌}
use mathlib.Core.Bool.{Bool, true, false, cond}
use mathlib.Core.List.{List, [], ◌∷◌, ◌++◌, append_assoc, append-nil}
use native.Mathlib.Omega.{arith}
use native.Mathlib.Nat.{zero-add, add-zero}
use lib.Dec.{ltb, leb}
use lib.ListN.{length, take, length-append, length-map}
use lib.Seq.{take-nil, append_snoc}
use lib.Ieee.{Float}
use borrow.Author.Tests.{leb-true, leb-false, le-leb, eq-eqb, ne_eqb}
use Rattle.spacing.specs.declared.Sighting.{Sighting}
use Rattle.spacing.specs.declared.Tally.{Tally}
use Rattle.spacing.specs.Frame.{Position, positions, sighted, pairs}
use Rattle.spacing.specs.Report.{sightings, smallest_of, below_of, report_of}
use Rattle.spacing.specs.Answers.{most_agents, most_frames, Answer, done}
use Rattle.spacing.specs.Tally.{fresh, begun, agents_of, fullest, report_with, tally_after, stepped_by}
use Rattle.spacing.specs.Claims.{after, accepted, with_accepted, TallyReport, sound_ones, AcceptedAre}
use Rattle.spacing.proofs.SmallestOf.{smallest-append, below-append}
use Rattle.spacing.proofs.Refusals.{begun-for-none, not_within, Answered, answered}

-- ---- a frame has at most 4096 pairs below the limit

positions-count : (frame : List Float) → 3 * length (positions frame) ≤ length frame
unfolding positions
positions-count [] = omega arith
positions-count (x ∷ []) = omega arith
positions-count (x ∷ y ∷ []) = omega arith
positions-count (x ∷ y ∷ z ∷ rest) = omega (arith, positions-count rest)

sighted-count : (frame first second : ℕ) (ds : List ℕ) → length (sighted frame first second ds) ≡ length ds
unfolding sighted
sighted-count frame first second [] = refl
sighted-count frame first second (d ∷ ds) = ap suc (sighted-count frame first (suc second) ds)

pairs-count : (frame first : ℕ) (ps : List Position) → length ps ≤ most_agents
    → length (pairs frame first ps) ≤ most_agents * length ps
unfolding pairs
pairs-count frame first [] few = omega arith
pairs-count frame first (p ∷ ps) few =
    simp (length-append, sighted-count, length-map) (omega (arith, pairs-count frame (suc first) ps (omega arith)))

below-count : (limit : ℕ) (ss : List Sighting) → below_of limit ss ≤ length ss
unfolding below_of
below-count limit [] = omega arith
below-count limit (s ∷ ss) = go (ltb s.squared (limit * limit)) (below-count limit ss)
  where
    go : (b : Bool) → below_of limit ss ≤ length ss → cond b (suc (below_of limit ss)) (below_of limit ss) ≤ suc (length ss)
    go true h = omega arith
    go false h = omega arith

below-frame : (limit number : ℕ) (frame : List Float) → length frame ≤ 3 * most_agents
    → below_of limit (pairs number 0 (positions frame)) ≤ 4096
below-frame limit number frame few =
    let ps = positions frame in
    let agents : length ps ≤ most_agents = omega (arith, positions-count frame) in
    omega (arith, below-count limit (pairs number 0 ps), pairs-count number 0 ps agents)

-- ---- one more frame

sightings-last : (number : ℕ) (frames : List (List Float)) (frame : List Float)
    → sightings number (frames ++ frame ∷ []) ≡ sightings number frames ++ pairs (number + length frames) 0 (positions frame)
unfolding sightings
sightings-last number [] frame = rw (append-nil, add-zero)
sightings-last number (f ∷ fs) frame =
    let on : suc number + length fs ≡ number + suc (length fs) = omega arith in
    rw (sightings-last (suc number) fs frame, append_assoc, on)

-- so few are below the limit that the count stays far below the largest number
abbrev Small : ℕ → List (List Float) → Type 0
Small limit seen = below_of limit (sightings 0 seen) ≤ 4096 * length seen

module _ (limit : ℕ) (seen : List (List Float)) (frame : List Float) where
  abbrev more : List (List Float)
  more = seen ++ frame ∷ []

  abbrev here : List Sighting
  here = pairs (length seen) 0 (positions frame)

  more-length : length more ≡ suc (length seen)
  more-length = rw length-append (omega arith)

  more-sightings : sightings 0 more ≡ sightings 0 seen ++ here
  more-sightings = rw (sightings-last 0 seen frame, zero-add)

  more-below : below_of limit (sightings 0 more) ≡ below_of limit (sightings 0 seen) + below_of limit here
  more-below = rw (more-sightings, below-append)

  more-small : Small limit seen → length frame ≤ 3 * most_agents → Small limit more
  more-small small short = omega (arith, more-below, more-length, below-frame limit (length seen) frame short)

  -- the count is cut nowhere
  more-fits : Small limit seen → length frame ≤ 3 * most_agents → length seen < most_frames
      → fullest (below_of limit (sightings 0 seen) + below_of limit here) ≡ below_of limit (sightings 0 more)
  more-fits small short room = omega (arith, more-below, below-frame limit (length seen) frame short)

  more-report : Small limit seen → length frame ≤ 3 * most_agents → length seen < most_frames
      → report_with limit (report_of limit seen) frame ≡ report_of limit more
  unfolding report_with report_of
  more-report small short room = rw (more-fits small short room, more-length, more-sightings, smallest-append)

-- ---- the report

-- a tally that has taken `seen`
abbrev stood : ℕ → ℕ → List (List Float) → Tally
stood agents limit seen = record { agents = agents; limit = limit; report = report_of limit seen }

module _ (agents limit : ℕ) where
  -- one that has taken some frames and then takes these has the report of all that it took
  abbrev Stands : List (List Float) → Type 0
  Stands frames =
      (seen : List (List Float)) → Small limit seen
      → (after (stood agents limit seen) frames).report ≡ report_of limit (seen ++ accepted (stood agents limit seen) frames)

  stands : agents ≤ most_agents → (frames : List (List Float)) → Stands frames
  unfolding after accepted stepped_by tally_after report_of
  stands few [] seen small = rw append-nil
  stands few (f ∷ fs) seen small = go (answered (agents_of tally) (length seen) f) (stands few fs)
    where
      tally : Tally
      tally = stood agents limit seen

      go : {answer : Answer} → Answered (agents_of tally) (length seen) f answer → Stands fs
          → (after (tally_after answer tally f) fs).report
          ≡ report_of limit (seen ++ with_accepted answer f (accepted (tally_after answer tally f) fs))
      go (Answered.wrong-length h) rest = rest seen small
      go (Answered.full h h') rest = rest seen small
      go (Answered.out-of-reach h h' k low) rest = rest seen small
      go (Answered.taken h h' within) rest =
          let short : length f ≤ 3 * most_agents = omega arith in
          rw (more-report limit seen f small short h')
          (rest (seen ++ f ∷ []) (more-small limit seen f small short) ∙ ap (report_of limit) (append_snoc seen f _))

begun-few : (agents limit : ℕ) → agents ≤ most_agents → (begun agents limit).tally ≡ fresh agents limit
unfolding begun
begun-few agents limit few = rw (le-leb agents most_agents few)

abbrev Reported : ℕ → ℕ → List (List Float) → Type 0
Reported agents limit frames =
    (after (begun agents limit).tally frames).report ≡ report_of limit (accepted (begun agents limit).tally frames)

few-report : (agents limit : ℕ) (frames : List (List Float)) → agents ≤ most_agents → Reported agents limit frames
unfolding fresh report_of sightings smallest_of below_of
few-report agents limit frames few = rw (begun-few agents limit few) (stands agents limit few frames [] (omega arith))

pub tally-report : TallyReport
tally-report agents limit frames = go (leb agents most_agents) refl
  where
    go : (b : Bool) → leb agents most_agents ≡ b → Reported agents limit frames
    go true e = few-report agents limit frames (leb-true agents most_agents e)
    go false e =
        rw ((begun-for-none agents limit).1 (leb-false agents most_agents e)).1 (few-report 0 limit frames (omega arith))

-- ---- those accepted

-- any tally accepts the sound ones, up to as many as it has room for
abbrev AcceptedFrom : List (List Float) → Type 0
AcceptedFrom frames =
    (tally : Tally) → accepted tally frames ≡ take (most_frames - tally.report.frames) (sound_ones (agents_of tally) frames)

accepted-from : (frames : List (List Float)) → AcceptedFrom frames
unfolding accepted sound_ones stepped_by tally_after report_with
accepted-from [] tally = rw take-nil
accepted-from (f ∷ fs) tally = go (answered (agents_of tally) tally.report.frames f) (accepted-from fs)
  where
    go : {answer : Answer} → Answered (agents_of tally) tally.report.frames f answer → AcceptedFrom fs
        → with_accepted answer f (accepted (tally_after answer tally f) fs)
        ≡ take (most_frames - tally.report.frames) (sound_ones (agents_of tally) (f ∷ fs))
    go (Answered.wrong-length h) rest = rw (ne_eqb (length f) (3 * agents_of tally) h) (rest tally)
    go (Answered.full h h') rest =
        let none : most_frames - tally.report.frames ≡ 0 = omega arith in rest tally ∙ rw none
    go (Answered.out-of-reach h h' k low) rest =
        rw (eq-eqb (length f) (3 * agents_of tally) h, not_within f k low.there low.out) (rest tally)
    go (Answered.taken h h' within) rest =
        let one : most_frames - tally.report.frames ≡ suc (most_frames - suc tally.report.frames) = omega arith in
        rw (eq-eqb (length f) (3 * agents_of tally) h, within, one)
        (ap (λ (l : List (List Float)). f ∷ l) (rest (tally_after done tally f)))

pub accepted-are : AcceptedAre
unfolding fresh
accepted-are agents limit frames few =
    let same : min agents most_agents ≡ agents = omega arith in
    ap (λ (tally : Tally). accepted tally frames) (begun-few agents limit few)
    ∙ accepted-from frames (fresh agents limit)
    ∙ ap (λ (n : ℕ). take most_frames (sound_ones n frames)) same
