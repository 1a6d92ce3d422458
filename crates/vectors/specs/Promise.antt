-- Every public function of the build ensures that its answer equals a definition. So any two answers that meet a promise are equal: this one law, for every type.
use Rattle.std.specs.Prelude.{◌≡◌}
use Rattle.std.proofs.Common.{sym, ◌∙◌}

pub determined : {A : Type 0} {meant one other : A} → one ≡ meant → other ≡ meant → one ≡ other
determined p q = p ∙ sym q
