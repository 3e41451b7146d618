-- What a transition's words tell, a search for the first that passes, and step 1 by the player's transition. Assumes nothing.
use Prim.Native.Nat.{ℕ, suc, ◌+◌, ◌-◌, ◌≤◌, ◌<◌}
use native.Mathlib.Numerals.{add-one}
use native.Mathlib.Omega.{arith}
use mathlib.Core.Path.{◌≡◌, refl, ap, ◌∙◌}
use mathlib.Core.Bool.{Bool, true, false, cond}
use lib.Dec.{eqb}
use mathlib.Core.List.{List}
use Rattle.std.specs.Prelude.{Option, Some, None}
use lib.Ieee.{Float, lt, le, eq, ne}
use Rattle.model.specs.declared.Transition.{Transition}
use Rattle.model.specs.declared.Transition.TheVariants.{Idle, Running}
use Rattle.model.specs.Controller.{holds, condition_holds, first_passing, winner, started_by, is_ended, step_from}
use Rattle.model.proofs.Laws.Steps.{winner_had}
use Rattle.layout.specs.declared.StateLayout.{StateLayout}
use Rattle.layout.specs.Kinds.{operator_of}
use Rattle.layout.specs.declared.Operator.TheVariants.{Less, AtMost, Greater, AtLeast, Equal, Unequal}
use Rattle.layout.specs.Layout.{InPlan}
use Rattle.transitions.specs.Operators.{compares}
use Rattle.layout.proofs.Laws.{transitions_counted}
use Rattle.transitions.specs.Step.{StepMade}

-- ---- an operator says what its number does

pub compares_holds : (n : ℕ) (p v : Float) → compares (operator_of n) p v ≡ holds n p v
unfolding operator_of holds
compares_holds n p v = go (eqb n 0) (eqb n 1) (eqb n 2) (eqb n 3) (eqb n 4)
  where
    go : (a b c d e : Bool) → compares (cond a Less (cond b AtMost (cond c Greater (cond d AtLeast (cond e Equal Unequal))))) p v ≡ cond a (lt p v) (cond b (le p v) (cond c (lt v p) (cond d (le v p) (cond e (eq p v) (ne p v)))))
    go true b c d e = refl
    go false true c d e = refl
    go false false true d e = refl
    go false false false true e = refl
    go false false false false true = refl
    go false false false false false = refl

-- ---- the search, at transition t of n

module _ (plan : List ℕ) (numbers parameters : List Float) (s n t : ℕ) where
  pub tries : t < n → first_passing plan numbers parameters s t (n - t) ≡ cond (condition_holds plan numbers parameters s t) (Some t) (first_passing plan numbers parameters s (t + 1) (n - (t + 1)))
  unfolding first_passing
  tries h = let e : n - t ≡ suc (n - (t + 1)) = omega arith in rw (e, add-one t)

  pub none_left : n ≤ t → first_passing plan numbers parameters s t (n - t) ≡ None
  unfolding first_passing
  none_left h = let e : n - t ≡ 0 = omega arith in rw e

-- the winner is one of the state's transitions
pub winner_inside : (plan : List ℕ) (numbers parameters : List Float) (here : StateLayout) → InPlan plan here → (w : Option ℕ) → w ≡ winner plan numbers parameters here.state → (t : ℕ) → w ≡ Some t → t < here.transitions
winner_inside plan numbers parameters here inside w e t f = rw (transitions_counted inside) (rw (← e, f) at (winner_had plan numbers parameters here.state))

-- ---- step 1

module _ (plan : List ℕ) (numbers : List Float) (s : ℕ) (x : Transition) (parameters : List Float) (instant : Float) where
  pub searched : (w : Option ℕ) → w ≡ winner plan numbers parameters s → (found : Transition) → found ≡ started_by plan numbers instant s w → x ≡ Idle
      → StepMade plan numbers s x parameters instant (record { state = s; transition = found })
  unfolding step_from
  searched w won found f e = record { step = λ p state transition parameters. rw (e, f, won, ← state, ← parameters) }

  module _ (start : Float) (target : ℕ) (duration : Float) (e : x ≡ Running start target duration) where
    pub ended : is_ended instant start duration ≡ true → StepMade plan numbers s x parameters instant (record { state = target; transition = Idle })
    unfolding step_from
    ended t = record { step = λ p state transition parameters. rw (e, t) }

    pub goes_on : is_ended instant start duration ≡ false → StepMade plan numbers s x parameters instant (record { state = s; transition = Running start target duration })
    unfolding step_from
    goes_on f = record { step = λ p state transition parameters. ap (step_from plan numbers instant p) e ∙ rw (f, ← state, ← (transition ∙ e)) }
