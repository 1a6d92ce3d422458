-- Why the 3D program reports what it reports: the claims of document 02's [7].
-- One law carries them: planes that come after others start from the outcome that those left (`after`), and what stopped the program stays (`unread`).
use mathlib.Core.Path.{◌≡◌, refl, sym, ap, ◌∙◌, subst}
use mathlib.Core.Bool.{Bool, true, false, cond}
use mathlib.Core.List.{List, [], ◌∷◌, ◌++◌, append_assoc}
use mathlib.Core.Option.{some}
use Prim.Native.Nat.{ℕ, zero, suc}
use native.Mathlib.Omega.{arith}
use lib.ListN.{length, take, drop, get_elem?, take-append-drop}
use lib.Seq.{take-append_seam}
use lib.Ieee.{Float}
use Rattle.vectors.specs.declared.Vec3.{Vec3}
use Rattle.vectors.specs.Number.{◌>ᶠ◌, zero as zero32}
use Rattle.solver.specs.declared.Plane.{Plane}
use Rattle.solver.specs.declared.Optimum.{Optimum}
use Rattle.solver.specs.declared.Optimum.TheVariants.{Point}
use Rattle.solver.specs.declared.OnPlane.{OnPlane}
use Rattle.solver.specs.declared.OnPlane.TheVariants as onPlane
use Rattle.solver.specs.declared.Failure.{Failure}
use Rattle.solver.specs.declared.Outcome.{Outcome}
use Rattle.solver.specs.declared.Outcome.TheVariants.{Feasible, Infeasible, BadClamp}
use Rattle.solver.specs.Plane.{signed_distance, in_turn}
use Rattle.solver.specs.AlongPlane.{along_plane}
use Rattle.solver.specs.ThreeD.{three_d, start_in, by_plane, from_plane}
use Rattle.solver.specs.Solve.{solve}
use Rattle.solver.specs.Claims.{IsFeasible, infeasible_at, ComesTo, FailsExactly, FailsExactlyAny, LaterUnread, LaterReplaced, FeasibleBeginnings, ClampApart, ClampsExactly, OnlyIndex, OnlyPlane}
use Rattle.solver.proofs.InTurn.{stays, in-turn-after}

-- ---- the element at an index

one_more : {A : Type 0} (xs : List A) (k : ℕ) {x : A} → get_elem? xs k ≡ some x → take (suc k) xs ≡ take k xs ++ x ∷ []
one_more [] k e = cc
one_more (y ∷ ys) zero e = cc
one_more (y ∷ ys) (suc k) e = ap (λ (zs : List _). y ∷ zs) (one_more ys k e)

first-many : {A : Type 0} (xs : List A) (k : ℕ) {x : A} → get_elem? xs k ≡ some x → length (take k xs) ≡ k
first-many [] k e = cc
first-many (y ∷ ys) zero e = refl
first-many (y ∷ ys) (suc k) e = ap suc (first-many ys k e)

at-seam : {A : Type 0} (xs : List A) (y : A) (ys : List A) → get_elem? (xs ++ y ∷ ys) (length xs) ≡ some y
at-seam [] y ys = refl
at-seam (x ∷ xs) y ys = at-seam xs y ys

-- ---- what stopped the program

abbrev Stopped : Outcome → Type 0
Stopped (Feasible v) = ⊥
Stopped (Infeasible failure) = Unit {0}
Stopped (BadClamp k) = Unit {0}

module _ (radius : Float) (optimum : Optimum) where
  abbrev step : List Plane → Plane → Outcome → Outcome
  step = by_plane radius optimum

  after : (planes later : List Plane) → three_d (planes ++ later) radius optimum ≡ in_turn step planes later (three_d planes radius optimum)
  unfolding three_d
  after planes later = in-turn-after step [] planes later (Feasible (start_in radius optimum))

  kept : (outcome : Outcome) → Stopped outcome → (passed : List Plane) (plane : Plane) → step passed plane outcome ≡ outcome
  unfolding by_plane
  kept (Feasible v) s passed plane = absurd s
  kept (Infeasible failure) s passed plane = refl
  kept (BadClamp k) s passed plane = refl

  unread : (outcome : Outcome) → Stopped outcome → (planes later : List Plane) → three_d planes radius optimum ≡ outcome → three_d (planes ++ later) radius optimum ≡ outcome
  unread outcome s planes later e = after planes later ∙ ap (in_turn step planes later) e ∙ stays step outcome (kept outcome s) planes later

  -- one plane more
  met : (passed : List Plane) (plane : Plane) (v : Vec3) → three_d passed radius optimum ≡ Feasible v → three_d (passed ++ plane ∷ []) radius optimum ≡ step passed plane (Feasible v)
  unfolding in_turn
  met passed plane v before = after passed (plane ∷ []) ∙ rw before

  -- ---- from plane k to the report

  solved-on : (passed : List Plane) (plane : Plane) (v : Vec3) (answer : OnPlane) → (signed_distance plane v >ᶠ zero32) ≡ false → along_plane plane radius passed optimum ≡ answer → step passed plane (Feasible v) ≡ from_plane (length passed) v answer
  unfolding by_plane
  solved-on passed plane v answer not-above solved = rw (not-above, solved)

  up_to : (planes : List Plane) (k : ℕ) (v : Vec3) (answer : OnPlane) → ComesTo planes radius optimum k v answer → three_d (take (suc k) planes) radius optimum ≡ from_plane k v answer
  up_to planes k v answer c =
      ap (λ (ps : List Plane). three_d ps radius optimum) (one_more planes k c.there)
      ∙ met (take k planes) c.plane v c.before
      ∙ solved-on (take k planes) c.plane v answer c.not-above c.solved
      ∙ ap (λ (n : ℕ). from_plane n v answer) (first-many planes k c.there)

  reported : (planes : List Plane) (k : ℕ) (v : Vec3) (answer : OnPlane) → Stopped (from_plane k v answer) → ComesTo planes radius optimum k v answer → three_d planes radius optimum ≡ from_plane k v answer
  reported planes k v answer s c = rw (← take-append-drop (suc k) planes) (unread (from_plane k v answer) s (take (suc k) planes) (drop (suc k) planes) (up_to planes k v answer c))

  -- ---- from the report to plane k

  abbrev Reason : List Plane → Outcome → Type 0
  Reason planes (Feasible v) = Unit {0}
  Reason planes (Infeasible failure) = ComesTo planes radius optimum failure.index failure.value onPlane.Infeasible
  Reason planes (BadClamp k) = (v : Vec3) × ComesTo planes radius optimum k v onPlane.BadClamp

  module _ (passed : List Plane) (plane : Plane) (v : Vec3) (before : three_d passed radius optimum ≡ Feasible v) where
    comes : (later : List Plane) (answer : OnPlane) → (signed_distance plane v >ᶠ zero32) ≡ false → along_plane plane radius passed optimum ≡ answer → ComesTo (passed ++ plane ∷ later) radius optimum (length passed) v answer
    comes later answer not-above solved =
        record {
          plane = plane;
          there = at-seam passed plane later;
          before = rw (take-append_seam passed (plane ∷ later)) before;
          not-above = not-above;
          solved = rw (take-append_seam passed (plane ∷ later)) solved;
        }

    reason-here : (later : List Plane) → Reason (passed ++ plane ∷ later) (step passed plane (Feasible v))
    unfolding by_plane from_plane
    reason-here later = go (signed_distance plane v >ᶠ zero32) refl (along_plane plane radius passed optimum) refl
      where
        go : (above : Bool) → (signed_distance plane v >ᶠ zero32) ≡ above → (answer : OnPlane) → along_plane plane radius passed optimum ≡ answer
            → Reason (passed ++ plane ∷ later) (cond above (Feasible v) (from_plane (length passed) v answer))
        go true a answer b = tt
        go false a (onPlane.Value w) b = tt
        go false a onPlane.Infeasible b = comes later onPlane.Infeasible a b
        go false a onPlane.BadClamp b = (v, comes later onPlane.BadClamp a b)

  -- a value goes on to the later planes, and a reason is the reason of the whole list
  onward : (planes passed later : List Plane) → ((v : Vec3) → three_d passed radius optimum ≡ Feasible v → Reason planes (in_turn step passed later (Feasible v)))
      → (outcome : Outcome) → three_d passed radius optimum ≡ outcome → Reason planes outcome → Reason planes (in_turn step passed later outcome)
  onward planes passed later more (Feasible v) e r = more v e
  onward planes passed later more (Infeasible failure) e r = rw (stays step (Infeasible failure) (kept (Infeasible failure) tt) passed later) r
  onward planes passed later more (BadClamp k) e r = rw (stays step (BadClamp k) (kept (BadClamp k) tt) passed later) r

  reason-from : (passed planes : List Plane) (v : Vec3) → three_d passed radius optimum ≡ Feasible v → Reason (passed ++ planes) (in_turn step passed planes (Feasible v))
  unfolding in_turn
  reason-from passed [] v e = tt
  reason-from passed (plane ∷ later) v e =
      onward (passed ++ plane ∷ later) (passed ++ plane ∷ []) later
      (λ w f. rw (← append_assoc passed (plane ∷ []) later) (reason-from (passed ++ plane ∷ []) later w f))
      (step passed plane (Feasible v)) (met passed plane v e) (reason-here passed plane v e later)

  reason : (planes : List Plane) (outcome : Outcome) → three_d planes radius optimum ≡ outcome → Reason planes outcome
  unfolding three_d in_turn
  reason planes outcome e = subst (λ (o : Outcome). Reason planes o) e (reason-from [] planes (start_in radius optimum) refl)

-- ---- the claims

pub fails-exactly-any : FailsExactlyAny
unfolding from_plane
fails-exactly-any planes radius optimum k v = (reason radius optimum planes (infeasible_at k v), reported radius optimum planes k v onPlane.Infeasible tt)

pub fails-exactly : FailsExactly
fails-exactly planes radius optimum finite-planes finite-radius finite-optimum = fails-exactly-any planes radius optimum

pub later-unread : LaterUnread
later-unread planes later radius optimum k v = unread radius optimum (infeasible_at k v) tt planes later

pub later-replaced : LaterReplaced
unfolding from_plane
later-replaced planes others radius optimum k v same e =
    let alone = up_to radius optimum planes k v onPlane.Infeasible ((fails-exactly-any planes radius optimum k v).0 e) in
    rw (← take-append-drop (suc k) others) (later-unread (take (suc k) others) (drop (suc k) others) radius optimum k v (ap (λ (ps : List Plane). three_d ps radius optimum) same ∙ alone))

pub feasible-beginnings : FeasibleBeginnings
feasible-beginnings planes radius optimum (v, feasible) n = go (three_d (take n planes) radius optimum) refl
  where
    goes_on : (outcome : Outcome) → Stopped outcome → three_d (take n planes) radius optimum ≡ outcome → outcome ≡ Feasible v
    goes_on outcome s e = sym (unread radius optimum outcome s (take n planes) (drop n planes) e) ∙ rw (take-append-drop n planes) feasible

    go : (outcome : Outcome) → three_d (take n planes) radius optimum ≡ outcome → IsFeasible outcome
    go (Feasible w) e = (w, refl)
    go (Infeasible failure) e = (v, goes_on (Infeasible failure) tt e)
    go (BadClamp k) e = (v, goes_on (BadClamp k) tt e)

pub clamp-apart : ClampApart
clamp-apart planes radius optimum k e = (λ (v, f). let z : ◌≡◌ {A = ℕ} 0 1 = cc (e, f) in omega arith, λ (j, v, f). let z : ◌≡◌ {A = ℕ} 0 1 = cc (e, f) in omega arith)

pub clamps-exactly : ClampsExactly
unfolding from_plane
clamps-exactly planes radius optimum k = (reason radius optimum planes (BadClamp k), λ (v, c). reported radius optimum planes k v onPlane.BadClamp tt c)

pub only-index : OnlyIndex
only-index planes radius optimum j k v w e f =
    let same : ◌≡◌ {A = Failure} (record { index = j; value = v }) (record { index = k; value = w }) = cc in
    (ap (λ (failure : Failure). failure.index) same, ap (λ (failure : Failure). failure.value) same)

pub only-plane : OnlyPlane
only-plane planes radius optimum j k v w c d =
    only-index planes radius optimum j k v w ((fails-exactly-any planes radius optimum j v).1 c) ((fails-exactly-any planes radius optimum k w).1 d)

-- ---- for the layers above

-- a solve reports what the 3D program does, which seeks the preferred velocity
pub solve-reports : (planes : List Plane) (radius : Float) (preferred : Vec3) → (solve planes radius preferred).outcome ≡ three_d planes radius (Point preferred.x preferred.y preferred.z)
unfolding solve
solve-reports planes radius preferred = refl
