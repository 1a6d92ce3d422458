-- A goal set takes the place of an earlier one.
use mathlib.Core.Path.{◌≡◌, ap}
use mathlib.Core.List.{List}
use Prim.Native.Nat.{ℕ}
use native.Mathlib.Omega.{arith}
use lib.ListN.{set}
use lib.Seq.{set-set, set_comm}
use Rattle.vectors.specs.declared.Vec3.{Vec3}
use Rattle.records.specs.declared.Record.{Record}
use Rattle.records.specs.Record.{with_vector, with_goal}

three-over : (w : List ℕ) (a b c a' b' c' : ℕ) → set (set (set (set (set (set w 8 a) 9 b) 10 c) 8 a') 9 b') 10 c' ≡ set (set (set w 8 a') 9 b') 10 c'
three-over w a b c a' b' c' =
    let y = set w 8 a' in
    rw (set_comm (set (set w 8 a) 9 b) 10 8 c a' (λ e. omega arith), set_comm (set w 8 a) 9 8 b a' (λ e. omega arith), set-set w 8 a a', set_comm (set y 9 b) 10 9 c b' (λ e. omega arith), set-set y 9 b b', set-set (set y 9 b') 10 c c')

pub goal-over : (u v : Vec3) (r : Record) → with_goal v (with_goal u r) ≡ with_goal v r
unfolding with_goal with_vector
goal-over u v r = ap (λ (w : List ℕ). record { words = w }) (three-over r.words _ _ _ _ _ _)
