-- The running tally: begun, and updated frame by frame.
use Rattle.std.specs.Prelude.{ℕ, suc, ◌+◌, ◌-◌, ◌*◌, ◌^◌, min, not, cond, List, [], ◌∷◌, leb, eqb, length, None, Ok, Err, Float}
use Rattle.spacing.specs.declared.Refusal.TheVariants.{TooManyAgents, WrongLength, TooManyFrames, OutOfReach}
use Rattle.spacing.specs.declared.Report.{Report}
use Rattle.spacing.specs.declared.Tally.{Tally}
use Rattle.spacing.specs.declared.Tallied.{Tallied}
use Rattle.spacing.specs.Frame.{out_of_reach, positions, pairs}
use Rattle.spacing.specs.Report.{lesser, smallest_of, below_of}
use Rattle.spacing.specs.Answers.{most_agents, most_frames, Answer, done}

-- ---- begun

unfoldable pub fresh : ℕ → ℕ → Tally
fresh agents limit =
    record { agents = agents; limit = limit; report = record { frames = 0; smallest = None; below = 0 } }

-- over 64 agents are refused, and the tally is one for none
unfoldable pub begun : ℕ → ℕ → Tallied
begun agents limit =
    cond (leb agents most_agents) (record { answer = done; tally = fresh agents limit })
    (record { answer = Err TooManyAgents; tally = fresh 0 limit })

-- ---- a frame's answer: 14, then 9, then 19

-- refused at the lowest component out of reach; the head of the list is at `place`
unfoldable pub within_reach : ℕ → List Float → Answer
within_reach place [] = done
within_reach place (x ∷ xs) = cond (out_of_reach x) (Err (OutOfReach place)) (within_reach (suc place) xs)

unfoldable pub frame_answer : ℕ → ℕ → List Float → Answer
frame_answer agents frames frame =
    cond (not (eqb (length frame) (3 * agents))) (Err (WrongLength (length frame)))
    (cond (leb most_frames frames) (Err TooManyFrames) (within_reach 0 frame))

-- ---- a frame taken

-- a tally that was not begun here may say more agents than 64, and is read as one for 64
abbrev pub agents_of : Tally → ℕ
agents_of tally = min tally.agents most_agents

-- it may have any count below the limit too: one that would not fit 64 binary digits stays the largest that does
abbrev pub fullest : ℕ → ℕ
fullest n = min n (2 ^ 64 - 1)

-- the report with one more frame
unfoldable pub report_with : ℕ → Report → List Float → Report
report_with limit report frame =
    let seen = pairs report.frames 0 (positions frame) in
    record {
      frames = suc report.frames;
      smallest = lesser report.smallest (smallest_of seen);
      below = fullest (report.below + below_of limit seen);
    }

-- the tally after an answer: with the frame where it is done, as it was where it is refused
unfoldable pub tally_after : Answer → Tally → List Float → Tally
tally_after (Ok _) tally frame =
    record { agents = tally.agents; limit = tally.limit; report = report_with tally.limit tally.report frame }
tally_after (Err refusal) tally frame = tally

unfoldable pub stepped_by : Tally → List Float → Tallied
stepped_by tally frame =
    let answer = frame_answer (agents_of tally) tally.report.frames frame in
    record { answer = answer; tally = tally_after answer tally frame }
