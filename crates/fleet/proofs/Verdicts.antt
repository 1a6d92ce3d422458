-- What a call hands back by what its checks say, and what a check that passed says.
use mathlib.Core.Path.{◌≡◌, refl}
use Prim.Native.Nat.{ℕ, ◌<◌}
use native.Mathlib.Omega.{arith}
use borrow.Author.Tests.{ltb-true}
use lib.Dec.{ltb}
use Rattle.std.specs.Prelude.{Ok, Err}
use Rattle.refusals.specs.Verdict.{Verdict, passed}
use Rattle.refusals.specs.declared.Refusal.TheVariants.{NoAgent, Full}
use Rattle.refusals.proofs.Verdicts.{not-answered, test-passed}
use Rattle.records.specs.Record.{most_agents}
use Rattle.records.specs.Checks.{index_among}
use Rattle.fleet.specs.declared.Answer.TheVariants.{Done}
use Rattle.fleet.specs.declared.Fleet.{Fleet}
use Rattle.fleet.specs.Answer.{number}
use Rattle.fleet.specs.Table.{settled, room}

-- ---- what a call hands back

-- an answer has the number 0 only where the checks passed
pub settled-passes : (v : Verdict) (fleet next : Fleet) → number (settled v fleet next).answer ≡ 0 → v ≡ passed
unfolding settled
settled-passes (Ok _) fleet next e = refl
settled-passes (Err refusal) fleet next e = absurd (not-answered refusal e)

pub settled-done : (v : Verdict) (fleet next : Fleet) → (settled v fleet next).answer ≡ Done → settled v fleet next ≡ record { answer = Done; fleet = next }
unfolding settled
settled-done (Ok _) fleet next e = refl
settled-done (Err refusal) fleet next e = let z : ◌≡◌ {A = ℕ} 0 1 = cc in absurd (omega arith)

-- a refused call leaves the table unchanged
pub settled-kept : (v : Verdict) (fleet next : Fleet) → (number (settled v fleet next).answer ≡ 0 → ⊥) → (settled v fleet next).fleet ≡ fleet
unfolding settled
settled-kept (Ok _) fleet next refused = absurd (refused refl)
settled-kept (Err refusal) fleet next refused = refl

-- ---- what a check that passed says

pub room-passed : (count : ℕ) → room count ≡ passed → count < most_agents
unfolding room
room-passed count e = ltb-true count most_agents (test-passed (ltb count most_agents) (Full most_agents) e)

pub among-passed : (count index : ℕ) → index_among count index ≡ passed → index < count
among-passed count index e = ltb-true index count (test-passed (ltb index count) (NoAgent index) e)
