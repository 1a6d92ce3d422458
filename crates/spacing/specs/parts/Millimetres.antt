-- What the functions behind `millimetres` promise each other.
use Rattle.std.specs.Prelude.{ℕ, zero, suc, ◌+◌, ◌-◌, ◌*◌, ◌/◌, ◌%◌, ◌^◌, ℤ, pos, negsuc}
use Rattle.spacing.specs.Millimetres.{whole_nearest}

-- 16384 metres in millimetres
abbrev pub reach : ℕ
reach = 16384000

-- A pattern without its sign, below that of the infinity, is so many times 2 ^ -149: by its exponent field and its fraction field.
unfoldable pub units_in : ℕ → ℕ → ℕ
units_in zero fraction = fraction
units_in (suc exponent) fraction = (2 ^ 23 + fraction) * 2 ^ exponent

-- how many millimetres that is
unfoldable pub size_of : ℕ → ℕ
size_of pattern = whole_nearest (1000 * units_in (pattern / 2 ^ 23) (pattern % 2 ^ 23)) (2 ^ 149)

-- from the corner at -16384 metres on: no position within reach is negative there
unfoldable pub from_corner : ℤ → ℕ
from_corner (pos n) = reach + n
from_corner (negsuc n) = reach - suc n
