-- Document 02, Card 3: figures that do not use all that they have. Definitions only: the theorems are in proofs/Unused.antt.
use Rattle.std.specs.Prelude.{ℕ, zero, suc, ◌+◌, ◌≡◌, Bool, true, false, List, [], ◌∷◌, ◌++◌, replicate}
use Rattle.model.specs.Plan.{max_parameters, Rate, Value, Duration, PoseFloat}
use Rattle.model.specs.Uses.{state_marks, parameter_marks, clip_marks}
use Rattle.model.specs.Unseen.{Unseen}

-- two roots, two clips of one sample, the first of which stops, one parameter, two states. State 0 plays clip 0 and stays; state 1 plays clip 1, and leaves by parameter 0
unfoldable pub two_states : List ℕ
two_states = 2 ∷ 2 ∷ 1 ∷ 2 ∷ 0 ∷ 255 ∷ 255 ∷ 1 ∷ 1 ∷ 1 ∷ 0 ∷ 1 ∷ 0 ∷ 0 ∷ 0 ∷ 0 ∷ 0 ∷ 1 ∷ 0 ∷ 1 ∷ 0 ∷ 0 ∷ 1 ∷ 0 ∷ 0 ∷ 0 ∷ []

-- the first of so many, and no other
abbrev pub first : ℕ → List Bool
first n = true ∷ replicate n false

pub record FirstOnly : Type 0 where
  pub states : state_marks two_states ≡ first 15
  -- no parameter at all, the readable one included
  pub parameters : parameter_marks two_states ≡ replicate max_parameters false
  pub clips : clip_marks two_states ≡ first 15

-- unseen whatever joints are chosen: clip 1's rate and poses, state 1's value and duration
pub record UnusedUnseen (chosen : List ℕ) : Type 0 where
  pub rate : Unseen two_states chosen (Rate 1)
  pub value : Unseen two_states chosen (Value 1 0)
  pub duration : Unseen two_states chosen (Duration 1 0)
  pub pose : (j k : ℕ) → Unseen two_states chosen (PoseFloat 1 0 j k)

-- n states from state s on, each with its only clip and one transition to the next; then the last one, which has none
unfoldable pub in_a_row : ℕ → ℕ → List ℕ
in_a_row s zero = 1 ∷ 0 ∷ 0 ∷ 0 ∷ 0 ∷ 0 ∷ []
in_a_row s (suc n) = (1 ∷ 0 ∷ 0 ∷ 0 ∷ 0 ∷ 1 ∷ 0 ∷ 0 ∷ (s + 1) ∷ []) ++ in_a_row (s + 1) n

unfoldable pub sixteen_states : List ℕ
sixteen_states = (1 ∷ 1 ∷ 1 ∷ 16 ∷ 0 ∷ 255 ∷ 1 ∷ 0 ∷ []) ++ in_a_row 0 15
