-- Facts about a node that passed its part of the check.
use Rattle.std.specs.Prelude.{ℕ, ◌<◌, ◌≡◌, false, List}
use borrow.Author.Tests.{ltb-true}
use Rattle.model.specs.Answers.{accepted}
use Rattle.model.specs.Plan.{is_clip, input_a, input_b}
use Rattle.model.specs.Check.{check_node}
use Rattle.model.proofs.Laws.Answers.{then_left, then_right}
use Rattle.model.proofs.Laws.Tests.{word_true, and_left}

module _ (plan : List ℕ) (s i : ℕ) (passed : check_node plan s i ≡ accepted) (blend : is_clip plan s i ≡ false) where
  pub input_a_earlier : input_a plan s i < i
  unfolding check_node
  input_a_earlier = ltb-true _ _ (and_left _ _ (rw blend at (word_true _ _ _ _ (then_right _ _ (then_left _ _ (then_left _ _ passed))))))

  pub input_b_earlier : input_b plan s i < i
  unfolding check_node
  input_b_earlier = ltb-true _ _ (and_left _ _ (and_left _ _ (rw blend at (word_true _ _ _ _ (then_right _ _ (then_left _ _ passed))))))
