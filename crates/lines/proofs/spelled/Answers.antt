-- A digit that is none of the base, which the search does not look for.
use Rattle.std.proofs.Common.{◌∙◌, sym}
use Rattle.lines.proofs.Digits.{no_digit_of_base}
use Rattle.lines.proofs.spelled.Goals as goal

pub returns-then-base-next : goal.returns-then-base-next
returns-then-base-next c =
    sym (c.loop-byte.invariant.1 ∙ no_digit_of_base _ _ _ _ _ c.loop-byte-test.true c.in_ok-next.ensures c.if-base-next.true)
