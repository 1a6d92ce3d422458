-- A refusal of a planned call leaves +0: what is cleared is all of its scratch, and nothing lies past it.
use mathlib.Core.Path.{◌≡◌, sym, ap, ◌∙◌}
use mathlib.Core.Bool.{true, true≢false}
use mathlib.Core.List.{List, ◌++◌, append-nil}
use Prim.Native.Nat.{ℕ, ◌*◌}
use native.Mathlib.Nat.{le_of_eq}
use lib.Ieee.{Float}
use lib.ListN.{length, replicate, drop_of_length-le}
use Rattle.std.specs.Prelude.{Ok, Err, is_err}
use Rattle.vectors.specs.Number.{zero}
use Rattle.solver.specs.declared.Plane.{Plane}
use Rattle.requests.specs.Reply.{Reply}
use Rattle.avoidance.specs.Velocity.{planned_scratch}

pub refused_cleared : (reply : Reply) (n : ℕ) (planes : List Plane) (xs ys : List Float) → is_err reply ≡ true → length xs ≡ 12 * n → length ys ≡ length xs
    → replicate (length ys) zero ≡ planned_scratch reply n planes xs
unfolding planned_scratch
refused_cleared (Ok course) n planes xs ys refused is same = absurd (true≢false (sym refused))
refused_cleared (Err refusal) n planes xs ys refused is same =
    ap (λ (k : ℕ). replicate k zero) (same ∙ is)
    ∙ sym (ap (λ (zs : List Float). replicate (12 * n) zero ++ zs) (drop_of_length-le xs (le_of_eq is)) ∙ append-nil (replicate (12 * n) zero))
