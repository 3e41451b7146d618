-- Step 1 of a frame, for a function that sees the player's parts. Definitions only.
use Rattle.std.specs.Prelude.{ℕ, ◌≡◌, List, Float}
use Rattle.model.specs.declared.Player.{Player}
use Rattle.model.specs.declared.Transition.{Transition}
use Rattle.model.specs.Controller.{with_state, with_transition, step_from}
use Rattle.transitions.specs.declared.Stepped.{Stepped}

-- of every player with this state, transition and these parameters, the step changes state and transition to what is returned, and nothing else
pub record StepMade (plan : List ℕ) (numbers : List Float) (state : ℕ) (transition : Transition) (parameters : List Float) (instant : Float) (r : Stepped) : Type 0 where
  pub step : (p : Player) → p.state ≡ state → p.transition ≡ transition → p.parameters ≡ parameters
      → step_from plan numbers instant p transition ≡ with_transition (with_state p r.state) r.transition
