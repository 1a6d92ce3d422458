-- A fleet made by the calls is sound.
--     sound_empty: the empty fleet is
--     sound-kept: every call, answered or refused, leaves a sound fleet sound
--     sound-run: and so does every run of calls
use mathlib.Core.Path.{◌≡◌, refl}
use mathlib.Core.List.{List, [], ◌∷◌, ◌++◌}
use Prim.Native.Nat.{ℕ, suc, ◌≤◌}
use native.Mathlib.Omega.{arith}
use lib.Ieee.{Float}
use lib.ListN.{length, get_or, take, drop, set, length-set, length-append, length-take, length-drop}
use Rattle.std.specs.Prelude.{Option, Some, None, Ok, Err}
use Rattle.vectors.specs.declared.Vec3.{Vec3}
use Rattle.vectors.specs.Vec3.{IsBinary32}
use Rattle.refusals.specs.declared.Refusal.TheVariants.{NoTick}
use Rattle.refusals.specs.Verdict.{◌⊳◌, Verdict, passed}
use Rattle.refusals.proofs.Verdicts.{both-passed}
use Rattle.records.specs.declared.Record.{Record}
use Rattle.records.specs.Record.{most_agents, per_record, blank, with_goal}
use Rattle.records.specs.Checks.{index_among, record_verdict}
use Rattle.records.specs.File.{records_of, file_verdict}
use Rattle.records.proofs.Decoding.{few-records, record-words, record-passes}
use Rattle.planner.specs.declared.Rule.{Rule}
use Rattle.planner.specs.Plan.{reply_for}
use Rattle.fleet.specs.declared.Tick.{Tick}
use Rattle.fleet.specs.declared.Fleet.{Fleet}
use Rattle.fleet.specs.Table.{agents, holding_nothing, fleet_of, settled, shut, has_agent, room, add_verdict, added, add_call, put_verdict, with_record, put_call, removed, remove_call, read_call}
use Rattle.fleet.specs.Load.{load_verdict, loaded, load_call}
use Rattle.fleet.specs.Save.{save_call}
use Rattle.fleet.specs.Tick.{step_verdict, open_verdict, open_call, goal_verdict, hold_goal, goal_set, goal_call, goal_taken, goals_taken, ended, moved_by, all_moved, close_verdict, close_open, close_in, close_call, drop_call}
use Rattle.fleet.specs.Plan.{fleet_after, answered_by, plan_open, plan_in, plan_call}
use Rattle.fleet.specs.Calls.{Call, step}
use Rattle.fleet.specs.Runs.{after}
use Rattle.fleet.specs.Sound.{Stored, Ticking, Sound}
use Rattle.fleet.specs.Claims.{SoundEmpty, SoundKept, SoundRun}
use Rattle.fleet.proofs.Lists.{Every, every-none, every_one, every_append, every_take, every_drop, every_set}
use Rattle.fleet.proofs.Verdicts.{room-passed}
use Rattle.fleet.proofs.Each.{each-length}
use Rattle.fleet.proofs.HeldGoals.{fit-index}
use Rattle.fleet.proofs.Storing.{none-storable, held-storable, goal-storable, plans-storable, goal-stored, goals-stored, moved-stored}

-- ---- fleets of records

abbrev AllStored : List Record → Type 0
AllStored rs = Every Stored blank rs

sound-holding : (tick : Option Tick) (rs : List Record) → length rs ≤ most_agents → AllStored rs → Ticking tick → Sound (holding_nothing tick rs)
unfolding holding_nothing
sound-holding tick rs few stored ticking =
    record {
      few = few;
      stored = stored;
      ticking = ticking;
      plans = none-storable;
      goals = none-storable;
    }

sound-of : (rs : List Record) → length rs ≤ most_agents → AllStored rs → Sound (fleet_of rs)
sound-of rs few stored = sound-holding None rs few stored tt

pub sound_empty : SoundEmpty
sound_empty = sound-of [] (omega arith) (every-none Stored blank)

-- a refused call hands back the fleet that it was given
sound-settled : (v : Verdict) (fleet next : Fleet) → Sound fleet → (v ≡ passed → Sound next) → Sound (settled v fleet next).fleet
unfolding settled
sound-settled (Ok _) fleet next sound are-passed = are-passed refl
sound-settled (Err r) fleet next sound are-passed = sound

-- ---- one call

module _ (fleet : Fleet) (sound : Sound fleet) where
  abbrev rs : List Record
  rs = agents fleet

  load-sound : (file : List ℕ) → load_verdict fleet.tick file ≡ passed → Sound (loaded file)
  unfolding load_verdict loaded
  load-sound file are-passed =
      let whole = (both-passed (shut fleet.tick) (file_verdict file) are-passed).1 in
      sound-of (records_of file) (few-records file whole) (λ i h. record { words = record-words file i h; passes = record-passes file i whole h })

  add-sound : (r : Record) → length r.words ≡ per_record → add_verdict fleet.tick (length rs) r ≡ passed → Sound (added fleet r)
  unfolding add_verdict added
  add-sound r words are-passed =
      let after-shut = (both-passed (shut fleet.tick) (room (length rs) ⊳ record_verdict 0 r) are-passed).1 in
      let (roomy, passes) = both-passed (room (length rs)) (record_verdict 0 r) after-shut in
      sound-of (rs ++ r ∷ []) (omega (arith, length-append rs (r ∷ []), room-passed (length rs) roomy))
      (every_append Stored blank rs (r ∷ []) sound.stored (every_one Stored blank r (record { words = words; passes = passes })))

  set-sound : (index : ℕ) (r : Record) → Stored r → Sound (fleet_of (set rs index r))
  set-sound index r ok = sound-of (set rs index r) (omega (arith, length-set rs index r, sound.few)) (every_set Stored blank rs index r sound.stored ok)

  put-sound : (index : ℕ) (r : Record) → length r.words ≡ per_record → put_verdict fleet.tick (length rs) index r ≡ passed → Sound (with_record fleet index r)
  unfolding put_verdict
  put-sound index r words are-passed =
      let after-shut = (both-passed (shut fleet.tick) (index_among (length rs) index ⊳ record_verdict 0 r) are-passed).1 in
      set-sound index r (record { words = words; passes = (both-passed (index_among (length rs) index) (record_verdict 0 r) after-shut).1 })

  remove-sound : (index : ℕ) → Sound (removed fleet index)
  unfolding removed
  remove-sound index =
      let front = take index rs in
      let back = drop (suc index) rs in
      sound-of (front ++ back) (omega (arith, length-append front back, length-take index rs, length-drop (suc index) rs, sound.few))
      (every_append Stored blank front back (every_take Stored blank index rs sound.stored) (every_drop Stored blank (suc index) rs sound.stored))

  open-sound : (tick : Tick) → open_verdict fleet.tick tick.time_step ≡ passed → Sound (holding_nothing (Some tick) rs)
  unfolding open_verdict
  open-sound tick are-passed =
      sound-holding (Some tick) rs sound.few sound.stored (both-passed (shut fleet.tick) (step_verdict tick.time_step) are-passed).1

  hold-sound : (index : ℕ) (v : Vec3) → goal_verdict (length rs) index v ≡ passed → IsBinary32 v → Sound (hold_goal fleet index v)
  unfolding hold_goal
  hold-sound index v are-passed is = record {
    few = sound.few;
    stored = sound.stored;
    ticking = sound.ticking;
    plans = sound.plans;
    goals = held-storable fleet.goals index v sound.goals (goal-storable (length rs) index v are-passed is);
  }

  goal-sound : (tick : Option Tick) (index : ℕ) (v : Vec3) → IsBinary32 v → goal_verdict (length rs) index v ≡ passed → Sound (goal_set tick fleet index v)
  unfolding goal_set
  goal-sound None index v is are-passed =
      let own = get_or rs index blank in
      set-sound index (with_goal v own) (goal-stored own v (sound.stored index (fit-index (length rs) index v are-passed)) (goal-storable (length rs) index v are-passed is))
  goal-sound (Some tick) index v is are-passed = hold-sound index v are-passed is

  plan-sound : (v : Verdict) (time_step : Float) (rule : Rule) (index k : ℕ) → Sound (answered_by v fleet index (reply_for time_step rule rs index k)).fleet
  unfolding answered_by fleet_after
  plan-sound (Ok _) time_step rule index k = record {
    few = sound.few;
    stored = sound.stored;
    ticking = sound.ticking;
    plans = plans-storable time_step rule rs index k fleet.plans sound.plans;
    goals = sound.goals;
  }
  plan-sound (Err r) time_step rule index k = sound

  plan-in-sound : (tick : Option Tick) (index k : ℕ) → Sound (plan_in tick fleet index k).fleet
  unfolding plan_in plan_open
  plan-in-sound None index k = sound-settled (Err NoTick) fleet fleet sound (λ e. sound)
  plan-in-sound (Some tick) index k = plan-sound (has_agent fleet index) tick.time_step tick.rule index k

  -- a tick that leaves these records
  ended-sound : (moved : List Record) → length moved ≡ length rs → AllStored moved → Sound (ended moved fleet.goals)
  unfolding ended goals_taken
  ended-sound moved as_many stored =
      let few : length moved ≤ most_agents = omega (arith, as_many, sound.few) in
      sound-of (goals_taken moved fleet.goals) (omega (arith, few, each-length goal_taken moved fleet.goals (omega (arith, few, sound.goals.many))))
      (goals-stored moved fleet.goals few stored sound.goals)

  close-sound : (tick : Option Tick) → Sound (close_in tick fleet).fleet
  unfolding close_in close_open all_moved
  close-sound None = sound-settled (Err NoTick) fleet fleet sound (λ e. sound)
  close-sound (Some tick) =
      sound-settled (close_verdict tick.time_step rs fleet.plans) fleet _ sound
      (λ are-passed. ended-sound (all_moved tick.time_step rs fleet.plans) (each-length (moved_by tick.time_step) rs fleet.plans (omega (arith, sound.few, sound.plans.many)))
      (moved-stored rs fleet.plans sound.few sound.stored sound.plans tick.time_step are-passed))

-- ---- every call

pub sound-kept : SoundKept
unfolding step load_call save_call add_call put_call remove_call read_call goal_call open_call plan_call close_call drop_call
sound-kept fleet (Call.load file) sound typed = sound-settled _ fleet _ sound (load-sound fleet sound file)
sound-kept fleet (Call.save buffer) sound typed = sound
sound-kept fleet (Call.add words) sound typed = sound-settled _ fleet _ sound (add-sound fleet sound (record { words = words }) typed)
sound-kept fleet (Call.put index words) sound typed = sound-settled _ fleet _ sound (put-sound fleet sound index (record { words = words }) typed)
sound-kept fleet (Call.remove index) sound typed = sound-settled _ fleet _ sound (λ e. remove-sound fleet sound index)
sound-kept fleet (Call.read index) sound typed = sound
sound-kept fleet (Call.goal index v) sound typed = sound-settled _ fleet _ sound (goal-sound fleet sound fleet.tick index v typed)
sound-kept fleet (Call.start time_step rule) sound typed = sound-settled _ fleet _ sound (open-sound fleet sound (record { time_step = time_step; rule = rule }))
sound-kept fleet (Call.plan index scratch) sound typed = plan-in-sound fleet sound fleet.tick index (length scratch)
sound-kept fleet Call.close sound typed = close-sound fleet sound fleet.tick
sound-kept fleet Call.drop sound typed = sound-settled _ fleet _ sound (λ e. ended-sound fleet sound (agents fleet) refl sound.stored)

-- ---- every run

pub sound-run : SoundRun
unfolding after
sound-run fleet [] sound typed = sound
sound-run fleet (call ∷ calls) sound (one, more) = sound-run (step fleet call).fleet calls (sound-kept fleet call sound one) more
