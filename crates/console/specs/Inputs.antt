-- What a source has left to read, where that is known.
use Rattle.std.specs.Prelude.{ℕ, List, Option}
use Rattle.console.specs.declared.inputs.Source.{Source}
use Rattle.console.specs.declared.inputs.Source.TheVariants.{Standard, File}

-- that of what it stands for
abbrev pub source_left : {S F : Type 0} → (S → Option (List ℕ)) → (F → Option (List ℕ)) → Source S F → Option (List ℕ)
source_left left_standard left_file (Standard input) = left_standard input
source_left left_standard left_file (File file) = left_file file
