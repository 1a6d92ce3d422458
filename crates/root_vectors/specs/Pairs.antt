-- What a line of `data/` says.
use Rattle.std.specs.Prelude.{cond, List, ℕ, Option, Some, None, eqb, length, get_or, take, drop}
use Rattle.lines.specs.Lines.{is_comment, word_of}
use Rattle.root_vectors.specs.declared.pairs.Line.{Line}
use Rattle.root_vectors.specs.declared.pairs.Line.TheVariants as line

abbrev pub pair_of : Option ℕ → Option ℕ → Line
pair_of (Some x) (Some y) = line.Pair x y
pair_of (Some x) None = line.Malformed
pair_of None y = line.Malformed

-- a pair is two words of eight digits with a space between
unfoldable pub line_of : List ℕ → Line
line_of s =
    cond (is_comment s) line.Comment
    (cond (eqb (length s) 17)
    (cond (eqb (get_or s 8 0) 32) (pair_of (word_of (take 8 s)) (word_of (take 8 (drop 9 s)))) line.Malformed)
    line.Malformed)
