-- The answer to arguments that do not fit.
use Rattle.std.specs.Prelude.{ℕ}

-- a request or a velocity of another length, or a rule that there is not: no number of document 01
abbrev pub unfit : ℕ
unfit = 255
