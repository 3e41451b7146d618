-- Step 1 keeps a player inside an accepted plan: its state and running target stay below S.
use Prim.Native.Nat.{ℕ, zero, suc, ◌+◌, ◌≤◌, ◌<◌}
use native.Mathlib.Omega.{arith}
use Rattle.std.specs.Prelude.{◌≡◌, Bool, cond, List, Float, Option, Some, None}
use Rattle.std.proofs.Math.Path.{refl}
use Rattle.std.proofs.Math.Bool.{true, false}
use borrow.Author.Tests.{lt-ltb, ltb-true}
use Rattle.model.specs.declared.Player.{Player}
use Rattle.model.specs.declared.Transition.{Transition}
use Rattle.model.specs.declared.Transition.TheVariants.{Idle, Running}
use Rattle.model.specs.Answers.{accepted}
use Rattle.model.specs.Plan.{state_count, transition_count}
use Rattle.model.specs.Check.{check_state}
use Rattle.model.specs.Controller.{with_state, with_transition, is_target_below, is_ended, condition_holds, first_passing, winner, started_by, step_from}
use Rattle.model.proofs.Laws.State.{target_below}

module _ (plan : List ℕ) (numbers : List Float) (parameters : List Float) (s : ℕ) where
  -- a transition that the state has, or none
  abbrev Had : Option ℕ → Type 0
  Had None = Unit {0}
  Had (Some t) = t < transition_count plan s

  passing_had : (n t : ℕ) → t + n ≤ transition_count plan s → Had (first_passing plan numbers parameters s t n)
  unfolding first_passing
  passing_had zero t h = tt
  passing_had (suc n) t h = go (condition_holds plan numbers parameters s t) (passing_had n (suc t) (omega arith))
    where
      go : (ok : Bool) → Had (first_passing plan numbers parameters s (suc t) n) → Had (cond ok (Some t) (first_passing plan numbers parameters s (suc t) n))
      go true later = omega arith
      go false later = later

  pub winner_had : Had (winner plan numbers parameters s)
  unfolding winner
  winner_had = passing_had (transition_count plan s) 0 (omega arith)

module _ (plan : List ℕ) (numbers : List Float) (p : Player) (now : Float) (passed : check_state plan p.state ≡ accepted) where
  started_below : (w : Option ℕ) → Had plan numbers p.parameters p.state w → is_target_below (state_count plan) (started_by plan numbers now p.state w) ≡ true
  unfolding is_target_below started_by
  started_below None h = refl
  started_below (Some t) h = lt-ltb _ _ (target_below plan p.state passed t h)

  pub step_target_below : (t : Transition) → p.transition ≡ t → is_target_below (state_count plan) t ≡ true → is_target_below (state_count plan) (step_from plan numbers now p t).transition ≡ true
  unfolding step_from is_target_below
  step_target_below Idle e h = started_below (winner plan numbers p.parameters p.state) (winner_had plan numbers p.parameters p.state)
  step_target_below (Running start target duration) e h = go (is_ended now start duration)
    where
      go : (ended : Bool) → is_target_below (state_count plan) (cond ended (with_transition (with_state p target) Idle) p).transition ≡ true
      go true = refl
      go false = rw e h

  pub step_state_below : (t : Transition) → p.state < state_count plan → is_target_below (state_count plan) t ≡ true → (step_from plan numbers now p t).state < state_count plan
  unfolding step_from is_target_below
  step_state_below Idle below h = below
  step_state_below (Running start target duration) below h = go (is_ended now start duration)
    where
      go : (ended : Bool) → (cond ended (with_transition (with_state p target) Idle) p).state < state_count plan
      go true = ltb-true target (state_count plan) h
      go false = below
