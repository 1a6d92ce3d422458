-- The pattern's parts, as `root` takes them apart.
use mathlib.Core.Path.{refl, sym, ap, ◌∙◌, subst₂}
use native.Mathlib.Omega.{arith}
use Rattle.vectors.specs.Root.{root}
use Rattle.vectors.specs.parts.Roots.{Begins}
use Rattle.vectors.proofs.root.Binary.{even-most, even_is, field_is, pattern-is}
use Rattle.vectors.proofs.roots.begin.Goals as goal

pub returns : goal.returns
returns c =
    let x = c.args.x in
    let p = c.lifted-parts.result.power in
    let pattern = pattern-is _ _ _ c.lifted-parts.ensures _ refl in
    subst₂ (Begins x) (sym (even_is _ _ _ c.lifted-parts.ensures)) (sym (field_is _ _ _ c.lifted-parts.ensures))
    (even-most _ p c.lifted-parts.ensures.q-most, omega (arith, c.lifted-parts.ensures.p-most), (pattern.0, λ above below. pattern.1 ∙ ap root (c.word_of.ensures.2 above below)))
