-- Facts about a plan whose header passed its part of the check.
use Rattle.std.specs.Prelude.{ℕ, ◌≤◌, ◌<◌, ◌≡◌, List, length}
use borrow.Author.Tests.{ltb-true, leb-true}
use Rattle.model.specs.Answers.{accepted}
use Rattle.model.specs.Plan.{max_joints, max_clips, max_parameters, max_states, joint_count, clip_count, parameter_count, state_count, initial_state, initial_state_at}
use Rattle.model.specs.Check.{check_header}
use Rattle.model.proofs.Laws.Answers.{then_left, then_right}
use Rattle.model.proofs.Laws.Tests.{word_true, word_there_lem, within_low, within_high}

module _ (plan : List ℕ) (passed : check_header plan ≡ accepted) where
  pub header_there : initial_state_at < length plan
  unfolding check_header
  header_there = word_there_lem _ _ _ _ (then_right _ _ passed)

  pub some_joints : 0 < joint_count plan
  unfolding check_header
  some_joints = within_low _ _ _ (word_true _ _ _ _ (then_left _ _ (then_left _ _ (then_left _ _ (then_left _ _ passed)))))

  pub few_joints : joint_count plan ≤ max_joints
  unfolding check_header
  few_joints = within_high _ _ _ (word_true _ _ _ _ (then_left _ _ (then_left _ _ (then_left _ _ (then_left _ _ passed)))))

  pub few_clips : clip_count plan ≤ max_clips
  unfolding check_header
  few_clips = within_high _ _ _ (word_true _ _ _ _ (then_right _ _ (then_left _ _ (then_left _ _ (then_left _ _ passed)))))

  pub few_parameters : parameter_count plan ≤ max_parameters
  unfolding check_header
  few_parameters = leb-true _ _ (word_true _ _ _ _ (then_right _ _ (then_left _ _ (then_left _ _ passed))))

  pub few_states : state_count plan ≤ max_states
  unfolding check_header
  few_states = within_high _ _ _ (word_true _ _ _ _ (then_right _ _ (then_left _ _ passed)))

  pub initial_below : initial_state plan < state_count plan
  unfolding check_header
  initial_below = ltb-true _ _ (word_true _ _ _ _ (then_right _ _ passed))
