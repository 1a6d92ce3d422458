-- Lengths that do not fit leave all that was lent as it was, and where they fit each of the six results is what the velocity call's reply gives.
use mathlib.Core.Path.{◌≡◌, refl, sym, ◌∙◌}
use mathlib.Core.Bool.{Bool, true, false, ◌&&◌}
use mathlib.Core.List.{List}
use lib.Dec.{eqb}
use lib.ListN.{length}
use lib.Ieee.{Float}
use borrow.Author.Tests.{eq-eqb, ne_eqb}
use Rattle.requests.specs.declared.Request.{Request}
use Rattle.std.specs.Prelude.{Some, None}
use Rattle.requests.specs.Request.{per_request}
use Rattle.planes.specs.Lent.{request_at, read_request}
use Rattle.planes.proofs.lent.RequestLaws.{not-read, is_read}
use Rattle.guineacrumb.specs.Velocity.{fits, reply_to, answer, scratch_left, velocity_left, place_left, relaxed_left, unseen_left}
use Rattle.guineacrumb.proofs.guineacrumb_velocity.Goals as goal

-- the lengths fit exactly where the velocity's does and a request is read
module _ (velocity request : List Float) where
  bad-velocity : (length velocity ≡ 3 → ⊥) → fits request velocity ≡ false
  unfolding fits
  bad-velocity other = go (eqb (length request) per_request)
    where
      go : (b : Bool) → b && eqb (length velocity) 3 ≡ false
      go true = ne_eqb (length velocity) 3 other
      go false = refl

  bad-request : read_request request ≡ None → fits request velocity ≡ false
  unfolding fits
  bad-request e = rw (not-read request e)

  good : (asked : Request) → length velocity ≡ 3 → read_request request ≡ Some asked → (fits request velocity ≡ true) × (asked ≡ request_at request)
  unfolding fits
  good asked three e =
      let (long, same) = is_read request asked e in
      (rw long (eq-eqb (length velocity) 3 three), same)

pub returns-then-velocity-ne-VELOCITY_NUMBERS : goal.returns-then-velocity-ne-VELOCITY_NUMBERS
unfolding answer scratch_left velocity_left place_left relaxed_left unseen_left
returns-then-velocity-ne-VELOCITY_NUMBERS c =
    let unfit = bad-velocity c.args.velocity.now c.args.request.now c.if-velocity-ne-VELOCITY_NUMBERS.true in
    record { answer = simp unfit; scratch = simp unfit; velocity = simp unfit; place = simp unfit; relaxed = simp unfit; unseen = simp unfit }

pub returns-in_default : goal.returns-in_default
unfolding answer scratch_left velocity_left place_left relaxed_left unseen_left
returns-in_default c =
    let unfit = bad-request c.args.velocity.now c.args.request.now (sym c.read_request.ensures ∙ c.in_default.is) in
    record { answer = simp unfit; scratch = simp unfit; velocity = simp unfit; place = simp unfit; relaxed = simp unfit; unseen = simp unfit }

pub returns : goal.returns
unfolding answer scratch_left velocity_left place_left relaxed_left unseen_left reply_to
returns c =
    let fit = good c.args.velocity.now c.args.request.now _ c.if-velocity-ne-VELOCITY_NUMBERS.false (sym c.read_request.ensures ∙ c.in-Some.is) in
    let fits = fit.0 in
    let request = fit.1 in
    let reply = c.velocity-reply.ensures.answer in
    let scratch = c.velocity-reply.ensures.scratch in
    let vector = c.velocity.ensures in
    let written = c.write.ensures in
    record { answer = simp (fits, ← request, ← reply, c.number.ensures); scratch = simp (fits, ← request, scratch); velocity = simp (fits, ← request, ← reply, ← vector, written); place = simp (fits, ← request, ← reply, c.place.ensures); relaxed = simp (fits, ← request, ← reply, ← c.relaxed.ensures, c.or_none.ensures); unseen = simp (fits, ← request, ← reply, ← c.unseen.ensures, c.or_none-2.ensures) }
