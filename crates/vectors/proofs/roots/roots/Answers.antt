-- The first loop's invariant: the lanes passed begin as `Begins` says. The second one's: they are roots.
use mathlib.Core.Path.{◌≡◌, sym, ap, ◌∙◌, subst}
use mathlib.Core.List.{map}
use Prim.Native.Nat.{ℕ, ◌<◌}
use native.Mathlib.Omega.{arith}
use borrow.Author.Rules.{rules}
use lib.ListN.{length, get_or, length-set, length-map, get_or-map}
use lib.Seq.{ext_get_or}
use lib.Ieee.{Float, nan}
use Rattle.vectors.specs.Root.{root}
use Rattle.vectors.specs.parts.Roots.{Lanes, Begins}
use Rattle.vectors.proofs.root.Nearest.{root-of-nan}
use Rattle.vectors.proofs.roots.Lanes.{lane-passed}
use Rattle.vectors.proofs.roots.roots.Goals as goal

pub loop-lane-preserved : goal.loop-lane-preserved
loop-lane-preserved c =
    let at = c.loop-lane in
    let lane = at.lane in
    let inside = c.loop-lane-test.true in
    let first = c.begin-first.result in (
      at.invariant.0 ∙ sym (length-set at.rest lane first.rest),
      at.invariant.1 ∙ sym (length-set at.high lane first.high),
      lane-passed 0 0 (λ (i r h : ℕ). Begins (get_or c.args.x i nan) r h) at.rest at.high lane first.rest first.high
          (subst (λ (n : ℕ). lane < n) at.invariant.0 inside)
          (subst (λ (n : ℕ). lane < n) at.invariant.1 inside)
          c.begin-first.ensures
          at.invariant.2,
    )

pub loop-lane-2-preserved : goal.loop-lane-2-preserved
loop-lane-2-preserved c =
    let at = c.loop-lane-2 in
    let lane = at.lane in
    let inside = subst (λ (n : ℕ). lane < n) at.invariant.0 c.loop-lane-2-test.true in (
      at.invariant.0 ∙ sym (length-set at.y lane c.ended.result),
      lane-passed nan nan (λ (i : ℕ) (y z : Float). y ≡ root (get_or c.args.x i nan)) at.y at.y lane c.ended.result c.ended.result inside inside c.ended.ensures at.invariant.1,
    )

pub returns : goal.returns
returns c =
    let at = c.loop-lane-2 in
    let x = c.args.x in
    let eight : Lanes x = search (rules, c.well_formed) in
    let same : length at.y ≡ length (map root x) = sym at.invariant.0 ∙ eight ∙ sym (length-map x root) in
    ext_get_or nan at.y (map root x) same
    (λ i inside. at.invariant.1 i (omega (arith, c.loop-lane-2-test.false, at.invariant.0)) ∙ sym (ap (get_or (map root x) i) (sym root-of-nan) ∙ get_or-map root x i nan))
