-- Worked examples, proved by running the definitions: `worked-examples` is one statement over the list of them.
use Prim.Native.Nat.{ℕ}
use mathlib.Core.Path.{◌≡◌, refl}
use mathlib.Core.Bool.{Bool, true, false}
use mathlib.Core.List.{List, [], ◌∷◌, map}
use lib.IntN.{ℤ, pos, negsuc}
use lib.Ieee.{lt, mul, of_bits, to_bits}
use Rattle.std.specs.Prelude.{Some, None}
use Rattle.vectors.specs.Number.{of_word, to_word, ◌⊗◌}
use Rattle.spacing.specs.declared.Sighting.{Sighting}
use Rattle.spacing.specs.declared.Report.{Report}
use Rattle.spacing.specs.Millimetres.{whole_nearest, millimetres}
use Rattle.spacing.specs.Frame.{out_of_reach, positions, squared, sighted, pairs}
use Rattle.spacing.specs.Report.{sightings, lesser, smallest_of, below_of, report_of}

-- ---- what an example says

pub data Example : Type 0 where
  -- a component by its pattern, and whether it is out of reach
  reach : ℕ → Bool → Example
  -- a component by its pattern, and its millimetres
  component : ℕ → ℤ → Example
  -- a component by its pattern, and the pattern of its product with 1000 in f32
  product : ℕ → ℕ → Example
  -- a limit, frames by their patterns, and their report
  report : ℕ → List (List ℕ) → Report → Example

abbrev pub Holds : Example → Type 0
Holds (reach word this) = out_of_reach (of_word word) ≡ this
Holds (component word this) = millimetres (of_word word) ≡ this
Holds (product word this) = to_word (of_word word ⊗ of_word 0x447A_0000) ≡ this
Holds (report limit frames this) = report_of limit (map (map (λ (word : ℕ). of_word word)) frames) ≡ this

abbrev pub All : List Example → Type 0
All [] = Unit {0}
All (e ∷ es) = Holds e × All es

-- ---- positions

-- 0, 1 and 1.5 metres
abbrev o : ℕ
o = 0

abbrev i : ℕ
i = 0x3F80_0000

abbrev h : ℕ
h = 0x3FC0_0000

-- 16384 and -16384 metres
abbrev far : ℕ
far = 0x4680_0000

abbrev minus_far : ℕ
minus_far = 0xC680_0000

abbrev seen : ℕ → ℕ → ℕ → ℕ → Sighting
seen square frame first second = record { squared = square; frame = frame; first = first; second = second }

-- two agents 1.5 metres apart, and with a third that is 1 metre from both its neighbours
abbrev two : List ℕ
two = o ∷ o ∷ o ∷ h ∷ o ∷ o ∷ []

abbrev three : List ℕ
three = i ∷ o ∷ o ∷ o ∷ o ∷ o ∷ i ∷ i ∷ o ∷ []

-- the same distance between two others, in a lower pair
abbrev lower : List ℕ
lower = o ∷ o ∷ o ∷ o ∷ o ∷ i ∷ far ∷ o ∷ o ∷ []

abbrev examples : List Example
examples =
    -- 16384 either way is within reach, the next number is not, nor is an infinity or a NaN
    reach far false
    ∷ reach minus_far false
    ∷ reach 0x4680_0001 true
    ∷ reach 0xC680_0001 true
    ∷ reach 0x7F80_0000 true
    ∷ reach 0x7FC0_0000 true
    -- 62.5 goes to 62 and 187.5 to 188, and so below 0
    ∷ component 0x3D80_0000 (pos 62)
    ∷ component 0x3E40_0000 (pos 188)
    ∷ component 0xBD80_0000 (negsuc 61)
    ∷ component 0xBE40_0000 (negsuc 187)
    -- 2.0005 as a binary32 is below the tie
    ∷ component 0x4000_0831 (pos 2000)
    -- 9426.5003, where the product in f32 is 9426.5, which would go to 9426
    ∷ component 0x4116_D2F2 (pos 9427)
    ∷ product 0x4116_D2F2 0x4613_4A00
    -- as far as a position may be, the smallest number above 0, and -0
    ∷ component far (pos 16384000)
    ∷ component minus_far (negsuc 16383999)
    ∷ component 0x0000_0001 (pos 0)
    ∷ component 0x8000_0000 (pos 0)
    -- the largest distance
    ∷ report 1 ((minus_far ∷ minus_far ∷ minus_far ∷ far ∷ far ∷ far ∷ []) ∷ []) (record { frames = 1; smallest = Some (seen 3221225472000000 0 0 1); below = 0 })
    -- a pair at the limit is not below it
    ∷ report 1500 (two ∷ []) (record { frames = 1; smallest = Some (seen 2250000 0 0 1); below = 0 })
    ∷ report 1501 (two ∷ []) (record { frames = 1; smallest = Some (seen 2250000 0 0 1); below = 1 })
    -- of two pairs that are equal the lower, and of two frames the first, where the later one's pair is lower
    ∷ report 1001 (three ∷ []) (record { frames = 1; smallest = Some (seen 1000000 0 0 1); below = 2 })
    ∷ report 1001 ((o ∷ o ∷ o ∷ far ∷ o ∷ o ∷ far ∷ o ∷ i ∷ []) ∷ lower ∷ []) (record { frames = 2; smallest = Some (seen 1000000 0 1 2); below = 2 })
    -- with fewer than two agents there is no smallest
    ∷ report 1500 ((o ∷ o ∷ o ∷ []) ∷ (i ∷ o ∷ o ∷ []) ∷ []) (record { frames = 2; smallest = None; below = 0 })
    ∷ report 1500 ([] ∷ []) (record { frames = 1; smallest = None; below = 0 })
    ∷ []

pub worked-examples : All examples
unfolding out_of_reach whole_nearest millimetres positions squared sighted pairs sightings lesser smallest_of below_of report_of lt mul of_bits to_bits
worked-examples = (refl, (refl, (refl, (refl, (refl, (refl, (refl, (refl, (refl, (refl, (refl, (refl, (refl, (refl, (refl, (refl, (refl, (refl, (refl, (refl, (refl, (refl, (refl, (refl, tt))))))))))))))))))))))))
