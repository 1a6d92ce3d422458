-- A request is read exactly from as many numbers as it has.
use mathlib.Core.Path.{◌≡◌, refl}
use mathlib.Core.Bool.{Bool, true, false, cond}
use mathlib.Core.List.{List}
use Rattle.std.specs.Prelude.{Some, None}
use lib.Dec.{eqb}
use lib.ListN.{length}
use lib.Ieee.{Float}
use Rattle.requests.specs.declared.Request.{Request}
use Rattle.requests.specs.Request.{per_request}
use Rattle.planes.specs.Lent.{request_at, read_request}

pub not-read : (numbers : List Float) → read_request numbers ≡ None → eqb (length numbers) per_request ≡ false
unfolding read_request
not-read numbers = go (eqb (length numbers) per_request)
  where
    go : (b : Bool) → cond b (Some (request_at numbers)) None ≡ None → b ≡ false
    go true e = cc
    go false e = refl

pub is_read : (numbers : List Float) (asked : Request) → read_request numbers ≡ Some asked → (eqb (length numbers) per_request ≡ true) × (asked ≡ request_at numbers)
unfolding read_request
is_read numbers asked = go (eqb (length numbers) per_request)
  where
    go : (b : Bool) → cond b (Some (request_at numbers)) None ≡ Some asked → (b ≡ true) × (asked ≡ request_at numbers)
    go true e = (refl, cc)
    go false e = cc
