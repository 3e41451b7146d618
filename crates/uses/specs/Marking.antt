-- What the steps of marking do to marks, for the contracts between them. Definitions only.
use Rattle.std.specs.Prelude.{ℕ, ◌≡◌, Bool, false, not, ◌&&◌, ◌||◌, List, length, Option}
use Rattle.std.specs.List.{position, zip}
use Rattle.model.specs.declared.Uses.{Uses}
use Rattle.model.specs.Uses.{is_marked, state_marks, parameter_marks, clip_marks}

-- the numbers that pass a test are marked besides
pub record Marked (f : ℕ → Bool) (before after : List Bool) : Type 0 where
  pub long : length after ≡ length before
  pub mark : (k : ℕ) → is_marked after k ≡ is_marked before k || f k

-- the states, parameters and clips that pass a test each
pub record AllMarked (leads reads plays : ℕ → Bool) (before after : Uses) : Type 0 where
  pub states : Marked leads before.states after.states
  pub parameters : Marked reads before.parameters after.parameters
  pub clips : Marked plays before.clips after.clips

-- a test that no number passes
abbrev pub none : ℕ → Bool
none k = false

-- the first state that is marked and not followed, where there is one
abbrev pub first_open : List Bool → List Bool → Option ℕ
first_open states followed = position (λ s. s.0 && not s.1) (zip states followed)

-- the marks of a figure that a start accepts
pub record MarksOf (plan : List ℕ) (r : Uses) : Type 0 where
  pub states : r.states ≡ state_marks plan
  pub parameters : r.parameters ≡ parameter_marks plan
  pub clips : r.clips ≡ clip_marks plan
