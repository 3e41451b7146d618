-- Marks of accepted figures, by computing. One has a state that is not reachable, a clip that nobody plays and a parameter that nobody reads, and so numbers
-- that are unseen though every joint is chosen: `Unseen` cannot shrink to nothing while its theorems still hold. In the other S − 1 transitions are needed.
use Rattle.std.specs.Prelude.{ℕ, ◌≡◌, refl, true, false, List}
use Rattle.std.proofs.Common.{inr}
use Rattle.model.specs.Answers.{accepted}
use Rattle.model.specs.Check.{check}
use Rattle.model.specs.Uses.{is_marked, reached_in, state_marks}
use Rattle.model.proofs.Laws.Opened.{check_opened, uses_opened}
use Rattle.model.specs.Unused.{two_states, FirstOnly, UnusedUnseen, in_a_row, sixteen_states}

-- with its 2 rates, one value, one duration and 32 pose floats
pub two_states_start : check two_states 36 ≡ accepted
unfolding check_opened two_states
two_states_start = refl

pub first_only : FirstOnly
unfolding uses_opened two_states
first_only = record { states = refl; parameters = refl; clips = refl }

pub unused_unseen : (chosen : List ℕ) → UnusedUnseen chosen
unfolding uses_opened two_states
unused_unseen chosen = record { rate = refl; value = refl; duration = refl; pose = λ j k. inr refl }

-- ---- sixteen states in a row: each leads to the next

-- with its rate, 15 values and durations, and one pose
pub sixteen_states_start : check sixteen_states 39 ≡ accepted
unfolding check_opened in_a_row sixteen_states
sixteen_states_start = refl

-- 15 transitions lead to the last, and no fewer do
pub last_of_sixteen : (is_marked (state_marks sixteen_states) 15 ≡ true) × (is_marked (reached_in sixteen_states 14) 15 ≡ false)
unfolding uses_opened in_a_row sixteen_states
last_of_sixteen = (refl, refl)
