-- The place of each answer of the velocity call, and what it leaves in scratch, by its number.
use mathlib.Core.Path.{◌≡◌, refl, sym, ap, subst, ◌∙◌}
use mathlib.Core.Bool.{Bool, true, false, ◌||◌, cond}
use mathlib.Core.List.{List, ◌++◌, append_assoc}
use Prim.Native.Nat.{ℕ, ◌*◌}
use native.Mathlib.Omega.{arith}
use lib.Dec.{eqb}
use lib.ListN.{length, take, drop, replicate, length-append, length-replicate}
use lib.Seq.{take_at, drop_at}
use lib.Ieee.{Float, nan}
use Rattle.vectors.specs.declared.Vec3.{Vec3}
use Rattle.vectors.specs.Number.{zero}
use Rattle.vectors.specs.Vec3.{finite_vec, plus_zeros}
use Rattle.refusals.specs.declared.Refusal.{Refusal}
use Rattle.refusals.specs.declared.Refusal.TheVariants as refusal
use Rattle.refusals.specs.Refusal as refusals
use Rattle.refusals.specs.Conditions.{first_bad, Lowest}
use Rattle.refusals.specs.Verdict.{settled_by, refused_at, Verdict}
use Rattle.refusals.proofs.Conditions.{found-lowest}
use Rattle.refusals.proofs.Verdicts.{Gives, gives_found}
use Rattle.solver.specs.declared.Plane.{Plane}
use Rattle.solver.specs.declared.OnPlane.TheVariants as onPlane
use Rattle.solver.specs.declared.Outcome.{Outcome}
use Rattle.solver.specs.declared.Outcome.TheVariants.{Feasible, Infeasible, BadClamp}
use Rattle.solver.specs.Lent.{numbers_of_planes}
use Rattle.solver.specs.Solve.{solve}
use Rattle.solver.specs.Claims.{ComesTo}
use Rattle.solver.proofs.LentPlanes.{flat-length}
use Rattle.solver.proofs.Why.{clamps-exactly, solve-reports}
use Rattle.requests.specs.declared.Request.{Request}
use Rattle.requests.specs.declared.Asked.TheVariants.{Finite, InRange}
use Rattle.requests.specs.Lent.{agent_count}
use Rattle.requests.specs.Checks.{bad_number, call_numbers, checks}
use Rattle.requests.specs.Reply.{number, place_of, Reply}
use Rattle.requests.proofs.ReplyLaws.{GivenBy, settled-gives}
use Rattle.requests.proofs.checks.Says.{checks-give, lowest-number}
use Rattle.planes.specs.Planes.{planes_of_call, bad_plane, first_unseen}
use Rattle.planes.proofs.writing.EachMade.{planes-many}
use Rattle.avoidance.specs.Velocity.{answered_with, outcome_reply, reply_of, planes_verdict, planned_reply, velocity_call, planned_scratch, scratch_after}
use Rattle.avoidance.specs.Claims.{sought, Placed, PlacesByAnswer, ScratchLeft, ScratchByAnswer}
use Rattle.std.specs.Prelude.{Option, Some, None, Ok, Err}

-- ---- what holds of each refusal

-- of those that are given once the checks are-passed
valued-give : (Q : Refusal → Type 0) (value : Vec3) (relaxed unseen : Option ℕ) → Q refusal.NoVelocity → GivenBy Q (answered_with value relaxed unseen)
unfolding answered_with
valued-give Q value relaxed unseen none = go (finite_vec value)
  where
    go : (b : Bool) → GivenBy Q (cond b (Ok (record { velocity = plus_zeros value; relaxed = relaxed; unseen = unseen })) (Err refusal.NoVelocity))
    go true = tt
    go false = none

outcome-gives : (Q : Refusal → Type 0) (outcome : Outcome) (value : Vec3) (unseen : Option ℕ) → ((plane : ℕ) → outcome ≡ BadClamp plane → Q (refusal.BadClamp plane)) → Q refusal.NoVelocity → GivenBy Q (outcome_reply outcome value unseen)
unfolding outcome_reply
outcome-gives Q (Feasible best) value unseen clamp none = valued-give Q value None unseen none
outcome-gives Q (Infeasible failure) value unseen clamp none = valued-give Q value (Some failure.index) unseen none
outcome-gives Q (BadClamp plane) value unseen clamp none = clamp plane refl

planned-gives : (Q : Refusal → Type 0) (request : Request) (neighbours : List Float)
    → ((neighbour : ℕ) → first_bad bad_plane 0 (planes_of_call request neighbours) ≡ Some neighbour → Q (refusal.PlaneNotFinite neighbour))
    → ((plane : ℕ) → (solve (planes_of_call request neighbours) request.max_speed request.preferred).outcome ≡ BadClamp plane → Q (refusal.BadClamp plane))
    → Q refusal.NoVelocity → GivenBy Q (planned_reply request neighbours)
unfolding planned_reply planes_verdict reply_of
planned-gives Q request neighbours plane clamp none =
    let planes = planes_of_call request neighbours in
    let solution = solve planes request.max_speed request.preferred in
    settled-gives Q (refused_at (first_bad bad_plane 0 planes) refusal.PlaneNotFinite) (reply_of solution (first_unseen request neighbours))
    (gives_found Q (first_bad bad_plane 0 planes) refusal.PlaneNotFinite plane) (outcome-gives Q solution.outcome solution.value (first_unseen request neighbours) clamp none)

-- ---- places

module _ (request : Request) (neighbours : List Float) where
  abbrev either : Bool → Type 0 → Type 0 → Type 0
  either true P Q = P
  either false P Q = Q

  -- what the place of an answer is, as one function of its number
  abbrev PlaceBy : ℕ → ℕ → Type 0
  PlaceBy answer place =
      either (eqb answer 17) (place ≡ agent_count neighbours)
      (either (eqb answer 2) (place ≡ 12 * agent_count neighbours)
      (either (eqb answer 3) (Lowest (bad_number Finite) 0 (call_numbers request neighbours) nan place)
      (either (eqb answer 4) (Lowest (bad_number InRange) 0 (call_numbers request neighbours) nan place)
      (either (eqb answer 5) (place ≡ 14)
      (either (eqb answer 6) ((d : Plane) → Lowest bad_plane 0 (planes_of_call request neighbours) d place)
      (either (eqb answer 18) ((v : Vec3) × ComesTo (planes_of_call request neighbours) request.max_speed (sought request) place v onPlane.BadClamp)
      (place ≡ 0)))))))

  abbrev PlacedBy : Refusal → Type 0
  PlacedBy r = PlaceBy (refusals.number r) (refusals.place_of r)

  clamped-on : (plane : ℕ) → (solve (planes_of_call request neighbours) request.max_speed request.preferred).outcome ≡ BadClamp plane
      → (v : Vec3) × ComesTo (planes_of_call request neighbours) request.max_speed (sought request) plane v onPlane.BadClamp
  clamped-on plane e =
      let planes = planes_of_call request neighbours in
      (clamps-exactly planes request.max_speed (sought request) plane).0 (sym (solve-reports planes request.max_speed request.preferred) ∙ e)

  replies : (reply : Reply) → GivenBy PlacedBy reply → PlaceBy (number reply) (place_of reply)
  replies (Ok course) given = refl
  replies (Err r) given = given

  call-placed : (k : ℕ) → GivenBy PlacedBy (velocity_call request neighbours k)
  unfolding velocity_call
  call-placed k =
      settled-gives PlacedBy (checks request neighbours k) (planned_reply request neighbours)
      (checks-give PlacedBy request neighbours k refl refl refl (lowest-number request neighbours Finite) (lowest-number request neighbours InRange) refl)
      (planned-gives PlacedBy request neighbours (λ neighbour e d. found-lowest bad_plane 0 (planes_of_call request neighbours) d neighbour e) clamped-on refl)

  placed : (answer place : ℕ) → PlaceBy answer place → Placed request neighbours answer place
  placed answer place is = record {
    of-0 = of 0;
    of-1 = of 1;
    of-2 = of 2;
    of-3 = of 3;
    of-4 = of 4;
    of-5 = of 5;
    of-6 = of 6;
    of-7 = of 7;
    of-17 = of 17;
    of-18 = of 18;
  }
    where
      of : (n : ℕ) → answer ≡ n → PlaceBy n place
      of n e = subst (λ (m : ℕ). PlaceBy m place) e is

pub places-by-answer : PlacesByAnswer
places-by-answer request neighbours k =
    let reply = velocity_call request neighbours k in
    placed request neighbours (number reply) (place_of reply) (replies request neighbours reply (call-placed request neighbours k))

-- ---- scratch

-- the numbers that leave +0
abbrev pub clears : ℕ → Bool
clears answer = eqb answer 6 || eqb answer 18 || eqb answer 7

-- those that leave it untouched, and those that clear it
abbrev Early : Refusal → Type 0
Early r = (eqb (refusals.number r) 0 ≡ false) × (clears (refusals.number r) ≡ false)

abbrev Late : Refusal → Type 0
Late r = (eqb (refusals.number r) 0 ≡ false) × (clears (refusals.number r) ≡ true)

module _ (request : Request) (neighbours scratch : List Float) where
  abbrev pub many : ℕ
  many = agent_count neighbours

  abbrev pub planes : List Plane
  planes = planes_of_call request neighbours

  -- what is left in scratch, as one function of the answer's number
  abbrev pub left_of : Bool → Bool → List Float
  left_of answered cleared =
      cond answered (numbers_of_planes planes ++ replicate (6 * many) zero ++ drop (12 * many) scratch)
      (cond cleared (replicate (12 * many) zero ++ drop (12 * many) scratch) scratch)

  abbrev pub left_by : ℕ → List Float
  left_by answer = left_of (eqb answer 0) (clears answer)

  checks-early : Gives Early (checks request neighbours (length scratch))
  checks-early = checks-give Early request neighbours (length scratch) (refl, refl) (refl, refl) (refl, refl) (λ place e. (refl, refl)) (λ place e. (refl, refl)) (refl, refl)

  planned-late : GivenBy Late (planned_reply request neighbours)
  planned-late = planned-gives Late request neighbours (λ neighbour e. (refl, refl)) (λ plane e. (refl, refl)) (refl, refl)

  planned-left : (reply : Reply) → GivenBy Late reply → planned_scratch reply many planes scratch ≡ left_by (number reply)
  unfolding planned_scratch
  planned-left (Ok course) late = refl
  planned-left (Err r) (answered, cleared) = rw (answered, cleared)

  left : (v : Verdict) (reply : Reply) → Gives Early v → GivenBy Late reply
      → settled_by v (λ r. scratch) (planned_scratch reply many planes scratch) ≡ left_by (number (settled_by v Err reply))
  left (Ok _) reply early late = planned-left reply late
  left (Err r) reply (answered, cleared) late = rw (answered, cleared)

  pub scratch-left : scratch_after request neighbours scratch ≡ left_by (number (velocity_call request neighbours (length scratch)))
  unfolding scratch_after velocity_call
  scratch-left = left (checks request neighbours (length scratch)) (planned_reply request neighbours) checks-early planned-late

  -- ---- its parts

  flat : length (numbers_of_planes planes) ≡ 6 * many
  flat = flat-length planes ∙ ap (λ (n : ℕ). 6 * n) (planes-many request neighbours)

  zeros-many : (n : ℕ) → length (replicate n zero) ≡ n
  zeros-many n = length-replicate n zero

  past-kept : (answered cleared : Bool) → drop (12 * many) (left_of answered cleared) ≡ drop (12 * many) scratch
  past-kept true cleared =
      let halves : length (numbers_of_planes planes ++ replicate (6 * many) zero) ≡ 12 * many = omega (arith, length-append (numbers_of_planes planes) (replicate (6 * many) zero), flat, zeros-many (6 * many)) in
      drop_at (numbers_of_planes planes ++ replicate (6 * many) zero) (drop (12 * many) scratch) (12 * many) halves
  past-kept false true = drop_at (replicate (12 * many) zero) (drop (12 * many) scratch) (12 * many) (zeros-many (12 * many))
  past-kept false false = refl

  zeros-first : take (12 * many) (left_of false true) ≡ replicate (12 * many) zero
  zeros-first = take_at (replicate (12 * many) zero) (drop (12 * many) scratch) (12 * many) (zeros-many (12 * many))

  -- the planes, and what comes after them
  planes-apart : left_of true false ≡ numbers_of_planes planes ++ (replicate (6 * many) zero ++ drop (12 * many) scratch)
  planes-apart = append_assoc (numbers_of_planes planes) (replicate (6 * many) zero) (drop (12 * many) scratch)

  planes-first : take (6 * many) (left_of true false) ≡ numbers_of_planes planes
  planes-first = ap (take (6 * many)) planes-apart ∙ take_at (numbers_of_planes planes) (replicate (6 * many) zero ++ drop (12 * many) scratch) (6 * many) flat

  zeros-next : take (6 * many) (drop (6 * many) (left_of true false)) ≡ replicate (6 * many) zero
  zeros-next =
      ap (λ (xs : List Float). take (6 * many) (drop (6 * many) xs)) planes-apart
      ∙ ap (take (6 * many)) (drop_at (numbers_of_planes planes) (replicate (6 * many) zero ++ drop (12 * many) scratch) (6 * many) flat)
      ∙ take_at (replicate (6 * many) zero) (drop (12 * many) scratch) (6 * many) (zeros-many (6 * many))

  left_after : (answer : ℕ) (after : List Float) → after ≡ left_by answer → ScratchLeft many planes answer scratch after
  left_after answer after is = record {
    of-0 = λ e. ap (take (6 * many)) (of 0 e) ∙ planes-first;
    next-of-0 = λ e. ap (λ (xs : List Float). take (6 * many) (drop (6 * many) xs)) (of 0 e) ∙ zeros-next;
    of-1 = of 1;
    of-2 = of 2;
    of-3 = of 3;
    of-4 = of 4;
    of-5 = of 5;
    of-17 = of 17;
    of-6 = λ e. ap (take (12 * many)) (of 6 e) ∙ zeros-first;
    of-7 = λ e. ap (take (12 * many)) (of 7 e) ∙ zeros-first;
    of-18 = λ e. ap (take (12 * many)) (of 18 e) ∙ zeros-first;
    past = ap (drop (12 * many)) is ∙ past-kept (eqb answer 0) (clears answer);
  }
    where
      of : (n : ℕ) → answer ≡ n → after ≡ left_by n
      of n e = is ∙ ap left_by e

pub scratch-by-answer : ScratchByAnswer
scratch-by-answer request neighbours scratch =
    left_after request neighbours scratch (number (velocity_call request neighbours (length scratch))) (scratch_after request neighbours scratch) (scratch-left request neighbours scratch)
