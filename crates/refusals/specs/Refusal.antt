-- The documents' table of numbered answers: each refusal's number and place. Document 01 has 1 to 15, document 02 16 to 18.
use Rattle.std.specs.Prelude.{ℕ}
use Rattle.refusals.specs.declared.Refusal.{Refusal}
use Rattle.refusals.specs.declared.Refusal.TheVariants.{RaggedNeighbours, ShortScratch, NotFinite, OutOfRange, BadFallback, PlaneNotFinite, NoVelocity, NoAgent, Full, TickOpen, NoTick, Unplanned, PositionNotFinite, BadFile, BadMargin, ShortBuffer, TooManyNeighbours, BadClamp}

abbrev pub number : Refusal → ℕ
number RaggedNeighbours = 1
number (ShortScratch needed) = 2
number (NotFinite place) = 3
number (OutOfRange place) = 4
number (BadFallback place) = 5
number (PlaneNotFinite neighbour) = 6
number NoVelocity = 7
number (NoAgent index) = 8
number (Full most) = 9
number TickOpen = 10
number NoTick = 11
number (Unplanned agent) = 12
number (PositionNotFinite agent) = 13
number (BadFile bytes) = 14
number (BadMargin place) = 15
number (ShortBuffer needed) = 16
number (TooManyNeighbours count) = 17
number (BadClamp plane) = 18

abbrev pub place_of : Refusal → ℕ
place_of RaggedNeighbours = 0
place_of (ShortScratch needed) = needed
place_of (NotFinite place) = place
place_of (OutOfRange place) = place
place_of (BadFallback place) = place
place_of (PlaneNotFinite neighbour) = neighbour
place_of NoVelocity = 0
place_of (NoAgent index) = index
place_of (Full most) = most
place_of TickOpen = 0
place_of NoTick = 0
place_of (Unplanned agent) = agent
place_of (PositionNotFinite agent) = agent
place_of (BadFile bytes) = bytes
place_of (BadMargin place) = place
place_of (ShortBuffer needed) = needed
place_of (TooManyNeighbours count) = count
place_of (BadClamp plane) = plane
