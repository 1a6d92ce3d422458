-- The smallest of some sightings is the first of the least, and what it and the count below the limit are of one list after another.
use Prim.Native.Nat.{ℕ, suc, ◌+◌, ◌*◌, ◌≤◌, ◌<◌}
use mathlib.Core.Path.{◌≡◌, refl, sym, ap, ◌∙◌, subst}
use mathlib.Core.Bool.{Bool, true, false, cond}
use mathlib.Core.List.{List, [], ◌∷◌, ◌++◌}
use native.Mathlib.Omega.{arith}
use lib.Dec.{ltb}
use borrow.Author.Tests.{ltb-true, ltb-false, lt-ltb, le-ltb}
use Rattle.spacing.specs.declared.Sighting.{Sighting}
use Rattle.spacing.specs.Report.{lesser, smallest_of, below_of}
use Rattle.std.specs.Prelude.{Option, Some, None}
use Rattle.spacing.specs.Claims.{Every, FirstLeast, SmallestIs}

-- ---- the lesser of two

lesser-first : (s t : Sighting) → s.squared ≤ t.squared → lesser (Some s) (Some t) ≡ Some s
unfolding lesser
lesser-first s t h = rw (le-ltb t.squared s.squared h)

lesser-second : (s t : Sighting) → t.squared < s.squared → lesser (Some s) (Some t) ≡ Some t
unfolding lesser
lesser-second s t h = rw (lt-ltb t.squared s.squared h)

pub lesser-nowhere : (a : Option Sighting) → lesser a None ≡ a
unfolding lesser
lesser-nowhere None = refl
lesser-nowhere (Some s) = refl

pub lesser-assoc : (a b c : Option Sighting) → lesser (lesser a b) c ≡ lesser a (lesser b c)
unfolding lesser
lesser-assoc None b c = refl
lesser-assoc (Some s) None c = refl
lesser-assoc (Some s) (Some t) None = lesser-nowhere (lesser (Some s) (Some t))
lesser-assoc (Some s) (Some t) (Some u) = go (ltb t.squared s.squared) (ltb u.squared t.squared) refl refl
  where
    go : (ts ut : Bool) → ltb t.squared s.squared ≡ ts → ltb u.squared t.squared ≡ ut
        → lesser (cond ts (Some t) (Some s)) (Some u) ≡ lesser (Some s) (cond ut (Some u) (Some t))
    go true true p q = lesser-second t u (omega (arith, ltb-true)) ∙ sym (lesser-second s u (omega (arith, ltb-true)))
    go true false p q = lesser-first t u (omega (arith, ltb-false)) ∙ sym (lesser-second s t (omega (arith, ltb-true)))
    go false true p q = refl
    go false false p q = lesser-first s u (omega (arith, ltb-false)) ∙ sym (lesser-first s t (omega (arith, ltb-false)))

-- ---- of one list after another

pub smallest-append : (xs ys : List Sighting) → smallest_of (xs ++ ys) ≡ lesser (smallest_of xs) (smallest_of ys)
unfolding smallest_of lesser
smallest-append [] ys = refl
smallest-append (x ∷ xs) ys = ap (lesser (Some x)) (smallest-append xs ys) ∙ sym (lesser-assoc (Some x) (smallest_of xs) (smallest_of ys))

pub below-append : (limit : ℕ) (xs ys : List Sighting) → below_of limit (xs ++ ys) ≡ below_of limit xs + below_of limit ys
unfolding below_of
below-append limit [] ys = omega arith
below-append limit (x ∷ xs) ys =
    rw (below-append limit xs ys) (one_more (ltb x.squared (limit * limit)) (below_of limit xs) (below_of limit ys))
  where
    one_more : (b : Bool) (m n : ℕ) → cond b (suc (m + n)) (m + n) ≡ cond b (suc m) m + n
    one_more true m n = omega arith
    one_more false m n = refl

-- ---- the first of the least

abbrev NoneSmaller : Sighting → List Sighting → Type 0
NoneSmaller s = Every (λ (t : Sighting). s.squared ≤ t.squared)

none-smaller-yet : (s t : Sighting) → s.squared ≤ t.squared → (ss : List Sighting) → NoneSmaller t ss → NoneSmaller s ss
none-smaller-yet s t h [] none = tt
none-smaller-yet s t h (u ∷ us) none = (omega arith, none-smaller-yet s t h us none.1)

-- those before a sighting that are larger, and those after it that are not smaller, leave it the smallest
past-larger : (s : Sighting) (before : List Sighting) → Every (λ (t : Sighting). s.squared < t.squared) before
    → lesser (smallest_of before) (Some s) ≡ Some s
unfolding smallest_of lesser
past-larger s [] h = refl
past-larger s (t ∷ ts) h =
    lesser-assoc (Some t) (smallest_of ts) (Some s)
    ∙ ap (lesser (Some t)) (past-larger s ts h.1)
    ∙ lesser-second t s h.0

past-others : (s : Sighting) (later : List Sighting) → NoneSmaller s later → lesser (Some s) (smallest_of later) ≡ Some s
unfolding smallest_of lesser
past-others s [] h = refl
past-others s (t ∷ ts) h =
    sym (lesser-assoc (Some s) (Some t) (smallest_of ts))
    ∙ ap (λ (a : Option Sighting). lesser a (smallest_of ts)) (lesser-first s t h.0)
    ∙ past-others s ts h.1

first-least-is : (ss : List Sighting) (s : Sighting) → FirstLeast ss s → smallest_of ss ≡ Some s
unfolding smallest_of
first-least-is ss s first =
    ap smallest_of first.there
    ∙ smallest-append first.before (s ∷ first.later)
    ∙ ap (lesser (smallest_of first.before)) (past-others s first.later first.none-smaller)
    ∙ past-larger s first.before first.larger

-- where there are any, one is the first of the least
abbrev HasLeast : List Sighting → Type 0
HasLeast ss = (s : Sighting) × FirstLeast ss s × NoneSmaller s ss

some-least : (t : Sighting) (ts : List Sighting) → HasLeast (t ∷ ts)
some-least t [] = (t, record { before = []; later = []; there = refl; larger = tt; none-smaller = tt }, (omega arith, tt))
some-least t (u ∷ us) =
    let (s, first, least) = some-least u us in
    go s first least (ltb s.squared t.squared) refl
  where
    ss : List Sighting
    ss = u ∷ us

    go : (s : Sighting) → FirstLeast ss s → NoneSmaller s ss → (b : Bool) → ltb s.squared t.squared ≡ b → HasLeast (t ∷ ss)
    go s first least true e =
        let h : s.squared < t.squared = omega (arith, ltb-true) in (
          s,
          record {
            before = t ∷ first.before;
            later = first.later;
            there = ap (λ (l : List Sighting). t ∷ l) first.there;
            larger = (h, first.larger);
            none-smaller = first.none-smaller;
          },
          (omega arith, least),
        )
    go s first least false e =
        let none = none-smaller-yet t s (omega (arith, ltb-false)) ss least in
        (t, record { before = []; later = ss; there = refl; larger = tt; none-smaller = none }, (omega arith, none))

none_seen : (ss : List Sighting) → smallest_of ss ≡ None → ss ≡ []
none_seen [] e = refl
none_seen (t ∷ ts) e =
    let (s, first, least) = some-least t ts in
    let seen = first-least-is (t ∷ ts) s first in
    cc

is-first-least : (ss : List Sighting) (s : Sighting) → smallest_of ss ≡ Some s → FirstLeast ss s
unfolding smallest_of
is-first-least [] s e = cc
is-first-least (t ∷ ts) s e =
    let (s', first, least) = some-least t ts in
    let seen = first-least-is (t ∷ ts) s' first in
    let same : s' ≡ s = cc in
    subst (FirstLeast (t ∷ ts)) same first

pub smallest-is : SmallestIs
unfolding smallest_of
smallest-is ss = (λ s. (is-first-least ss s, first-least-is ss s), (none_seen ss, λ e. ap smallest_of e))
