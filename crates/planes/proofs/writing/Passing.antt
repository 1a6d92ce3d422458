-- How far the planes are written: by one that was made, by several one after another, and up to one that is not finite.
use mathlib.Core.Path.{◌≡◌, refl, sym, ap, ◌∙◌, subst}
use mathlib.Core.Bool.{Bool, true, false, not, cond}
use mathlib.Core.List.{List, []}
use Prim.Native.Nat.{ℕ, zero, suc, ◌+◌, ◌-◌, ◌*◌, ◌≤◌}
use native.Mathlib.Nat.{add-zero}
use native.Mathlib.Omega.{arith}
use lib.Ieee.{Float}
use lib.ListN.{length, drop}
use Rattle.refusals.specs.Conditions.{first_bad}
use Rattle.refusals.proofs.Conditions.{or_else, first-none}
use Rattle.solver.specs.declared.Plane.{Plane}
use Rattle.solver.specs.Lent.{with_plane}
use Rattle.solver.proofs.Written.{with-length}
use Rattle.requests.specs.declared.Request.{Request}
use Rattle.requests.specs.Lent.{agent_count}
use Rattle.planes.specs.declared.NeighbourPlane.{NeighbourPlane}
use Rattle.refusals.specs.declared.Refusal.{Refusal}
use Rattle.refusals.specs.declared.Refusal.TheVariants.{PlaneNotFinite}
use Rattle.planes.specs.Planes.{plane_of, each_from, planes_from, unseen_from, planes_of_call, unseen_of_call, finite_plane, bad_plane, is_unseen, Made, made_of, planes_made, planes_written}
use Rattle.planes.specs.parts.Writing.{noted, WrittenTo, MadeWritten, Passed}
use Rattle.planes.proofs.writing.EachMade.{from-length, from_more, found-more, found-kept, none_made, one-made}
use Rattle.planes.proofs.writing.WrittenPlanes.{written-nothing, unless, planes-more}
use Rattle.std.specs.Prelude.{Option, Some, None, Ok, Err}

-- noting a neighbour is looking at one more
noted-is : (found : Option ℕ) (unseen : Bool) (index : ℕ) → noted found unseen index ≡ or_else found (cond unseen (Some index) None)
noted-is (Some earlier) unseen index = refl
noted-is None unseen index = refl

module _ (request : Request) (neighbours : List Float) where
  -- of the neighbour in the first numbers of a list
  abbrev plane_in : List Float → Plane
  plane_in neighbour = (plane_of request neighbour).plane

  abbrev unseen_in : List Float → Bool
  unseen_in neighbour = (plane_of request neighbour).unseen

  -- the first plane that is not finite, and the first neighbour that is unseen, before an index
  abbrev bad_before : ℕ → Option ℕ
  bad_before index = first_bad bad_plane 0 (planes_from request index neighbours)

  abbrev unseen_before : ℕ → Option ℕ
  unseen_before index = first_bad is_unseen 0 (unseen_from request index neighbours)

  abbrev next : ℕ → NeighbourPlane
  next index = plane_of request (drop (8 * index) neighbours)

  -- ---- none, and one after another

  pub written_none : (xs : List Float) → WrittenTo request neighbours 0 xs xs (Ok None)
  unfolding each_from
  written_none xs = record { made = rw (first-none bad_plane 0 [] refl, first-none is_unseen 0 [] refl); left = sym (written-nothing 0 xs) }

  pub passed_none : (index : ℕ) (unseen : Option ℕ) (xs : List Float) → Passed request neighbours index index unseen xs xs (Ok unseen)
  passed_none index unseen xs = record { same_length = refl; further = λ first before. before }

  pub passed_on : {start middle end : ℕ} {unseen found : Option ℕ} {xs ys zs : List Float} {r : Made}
      → Passed request neighbours start middle unseen xs ys (Ok found) → Passed request neighbours middle end found ys zs r → Passed request neighbours start end unseen xs zs r
  passed_on p q = record { same_length = q.same_length ∙ p.same_length; further = λ first before. q.further first (p.further first before) }

  -- ---- one

  -- scratch with one neighbour's plane more
  written-further : (index : ℕ) (first : List Float)
      → let before = planes_written (planes_from request index neighbours) first in
      planes_written (planes_from request (index + 1) neighbours) first ≡ unless (bad_before index) before (cond (finite_plane (next index).plane) (with_plane before index (next index).plane) before)
  written-further index first =
      ap (λ (ps : List Plane). planes_written ps first) (from_more plane_in index neighbours)
      ∙ planes-more (planes_from request index neighbours) index (next index).plane first (from-length plane_in index neighbours)

  module _ (index : ℕ) (unseen : Option ℕ) (first xs : List Float) (before : WrittenTo request neighbours index first xs (Ok unseen)) where
    none : (bad_before index ≡ None) × (unseen ≡ unseen_before index)
    none = none_made (bad_before index) (unseen_before index) unseen before.made

    one_more : (b : Bool) → not (finite_plane (next index).plane) ≡ b → bad_before (index + 1) ≡ cond b (Some index) None
    one_more b is = found-more plane_in bad_plane index neighbours ∙ rw (none.0, is)

    one-finite : finite_plane (next index).plane ≡ true → WrittenTo request neighbours (index + 1) first (with_plane xs index (next index).plane) (Ok (noted unseen (next index).unseen index))
    one-finite finite = record {
      made =
          ap Ok (noted-is unseen (next index).unseen index ∙ ap (λ (found : Option ℕ). or_else found (cond (next index).unseen (Some index) None)) none.1 ∙ sym (found-more unseen_in is_unseen index neighbours))
          ∙ ap (λ (found : Option ℕ). made_of found (unseen_before (index + 1))) (sym (one_more false (ap not finite)));
      left = ap (λ (ys : List Float). with_plane ys index (next index).plane) before.left ∙ sym (written-further index first ∙ rw (none.0, finite));
    }

    one-not-finite : finite_plane (next index).plane ≡ false → WrittenTo request neighbours (index + 1) first xs (Err (PlaneNotFinite index))
    one-not-finite bad = record {
      made = ap (λ (found : Option ℕ). made_of found (unseen_before (index + 1))) (sym (one_more true (ap not bad)));
      left = before.left ∙ sym (written-further index first ∙ rw (none.0, bad));
    }

  pub passed-one : (index : ℕ) (made : NeighbourPlane) (unseen : Option ℕ) (xs ys : List Float) (r : Made) → made ≡ plane_of request (drop (8 * index) neighbours)
      → MadeWritten index made unseen xs ys r → Passed request neighbours index (index + 1) unseen xs ys r
  passed-one index made unseen xs ys r is w = go (finite_plane (next index).plane) refl (subst (λ (m : NeighbourPlane). MadeWritten index m unseen xs ys r) is w)
    where
      go : (b : Bool) → finite_plane (next index).plane ≡ b → MadeWritten index (next index) unseen xs ys r → Passed request neighbours index (index + 1) unseen xs ys r
      go true finite w =
          let written = w.left ∙ ap (λ (b : Bool). cond b (with_plane xs index (next index).plane) xs) finite in
          let result = w.result ∙ ap (λ (b : Bool). cond b (Ok (noted unseen (next index).unseen index)) (Err (PlaneNotFinite index))) finite in
          record {
            same_length = ap length written ∙ with-length xs index (next index).plane;
            further = λ first before. rw (written, result) (one-finite index unseen first xs before finite);
          }
      go false bad w =
          let written = w.left ∙ ap (λ (b : Bool). cond b (with_plane xs index (next index).plane) xs) bad in
          let result = w.result ∙ ap (λ (b : Bool). cond b (Ok (noted unseen (next index).unseen index)) (Err (PlaneNotFinite index))) bad in
          record {
            same_length = ap length written;
            further = λ first before. rw (written, result) (one-not-finite index unseen first xs before bad);
          }

  -- the next, after those of a group before it
  pub passed-next : (start lane : ℕ) {made : NeighbourPlane} {unseen found : Option ℕ} {xs ys zs : List Float} {r : Made}
      → Passed request neighbours start (start + lane) unseen xs ys (Ok found) → made ≡ plane_of request (drop (8 * (start + lane)) neighbours)
      → MadeWritten (start + lane) made found ys zs r → Passed request neighbours start (start + (lane + 1)) unseen xs zs r
  passed-next start lane before is w =
      let next : start + lane + 1 ≡ start + (lane + 1) = omega arith in
      rw (sym next) (passed_on before (passed-one (start + lane) _ _ _ _ _ is w))

  -- ---- up to one that is not finite: no later plane shows

  written-kept : (more index : ℕ) (first : List Float) {place : ℕ} → bad_before index ≡ Some place → planes_written (planes_from request (index + more) neighbours) first ≡ planes_written (planes_from request index neighbours) first
  written-kept zero index first is = ap (λ (n : ℕ). planes_written (planes_from request n neighbours) first) (add-zero index)
  written-kept (suc more) index first is =
      let one : index + suc more ≡ index + more + 1 = omega arith in
      ap (λ (n : ℕ). planes_written (planes_from request n neighbours) first) one
      ∙ written-further (index + more) first
      ∙ rw (found-kept plane_in bad_plane more index neighbours is) (written-kept more index first is)

  pub passed-stopped : {start index end : ℕ} {unseen : Option ℕ} {xs ys : List Float} {refusal : Refusal} → index ≤ end → Passed request neighbours start index unseen xs ys (Err refusal)
      → Passed request neighbours start end unseen xs ys (Err refusal)
  passed-stopped {start} {index} {end} {unseen} {xs} {ys} {refusal} upto p =
      let more = end - index in
      let all : index + more ≡ end = omega arith in
      rw (sym all) (record {
        same_length = p.same_length;
        further = λ first before.
            let w = p.further first before in
            let (place, found, is) = one-made (bad_before index) (unseen_before index) refusal w.made in
            record {
              made = rw is (ap (λ (f : Option ℕ). made_of f (unseen_before (index + more))) (sym (found-kept plane_in bad_plane more index neighbours found)));
              left = w.left ∙ sym (written-kept more index first found);
            };
      })

  -- ---- all of a call's

  pub all-passed : {end : ℕ} {before after : List Float} {r : Made} → end ≡ agent_count neighbours → Passed request neighbours 0 end None before after r
      → record { made : r ≡ planes_made request neighbours; scratch : after ≡ planes_written (planes_of_call request neighbours) before }
  unfolding planes_made planes_of_call unseen_of_call
  all-passed {end} {before} {after} {r} all p =
      let whole : Passed request neighbours 0 (agent_count neighbours) None before after r = rw all at p in
      let w = whole.further before (written_none before) in
      record { made = w.made; scratch = w.left }
