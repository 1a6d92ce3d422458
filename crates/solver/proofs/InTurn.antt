-- What holds of both branches holds of a test; what every constraint keeps, all of them in turn keep; and constraints in turn are some of them in turn, then the others.
use mathlib.Core.Path.{◌≡◌, refl, ◌∙◌}
use mathlib.Core.Bool.{Bool, true, false, cond}
use mathlib.Core.List.{List, [], ◌∷◌, ◌++◌, append-nil, append_assoc}
use Rattle.solver.specs.declared.Plane.{Plane}
use Rattle.solver.specs.Plane.{in_turn}

pub either : {A : Type 0} (P : A → Type 0) (b : Bool) {x y : A} → P x → P y → P (cond b x y)
either P true p q = p
either P false p q = q

pub kept-in-turn : {State : Type 0} (step : List Plane → Plane → State → State) (P : State → Type 0) → ((passed : List Plane) (constraint : Plane) (s : State) → P s → P (step passed constraint s))
    → (passed constraints : List Plane) (s : State) → P s → P (in_turn step passed constraints s)
unfolding in_turn
kept-in-turn step P keeps passed [] s p = p
kept-in-turn step P keeps passed (c ∷ cs) s p = kept-in-turn step P keeps (passed ++ c ∷ []) cs (step passed c s) (keeps passed c s p)

module _ {State : Type 0} (step : List Plane → Plane → State → State) where
  -- a state that every constraint keeps stays
  pub stays : (state : State) → ((passed : List Plane) (constraint : Plane) → step passed constraint state ≡ state) → (passed constraints : List Plane) → in_turn step passed constraints state ≡ state
  unfolding in_turn
  stays state kept passed [] = refl
  stays state kept passed (constraint ∷ constraints) = rw (kept passed constraint) (stays state kept (passed ++ constraint ∷ []) constraints)

  -- constraints that come after others have those passed before them, and start with the state that they left
  pub in-turn-after : (passed constraints later : List Plane) (state : State) → in_turn step passed (constraints ++ later) state ≡ in_turn step (passed ++ constraints) later (in_turn step passed constraints state)
  unfolding in_turn
  in-turn-after passed [] later state = rw append-nil
  in-turn-after passed (constraint ∷ constraints) later state = in-turn-after (passed ++ constraint ∷ []) constraints later (step passed constraint state) ∙ rw append_assoc
