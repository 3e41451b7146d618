-- Facts about a state that passed its part of the check.
use Rattle.std.specs.Prelude.{ℕ, ◌-◌, ◌≤◌, ◌<◌, ◌≡◌, true, false, not, ◌&&◌, List, length, ltb, eqb}
use borrow.Author.Tests.{ltb-true, leb-true}
use Rattle.model.specs.Answers.{accepted}
use Rattle.model.specs.Plan.{max_nodes, max_transitions, max_clip_nodes, clip_count, parameter_count, state_count, state_at, node_count, node_parameter_at, is_clip, input_a, input_b, node_parameter, clip_node_at, transition_count_at, transition_count, target_state_at, condition_parameter, target_state}
use Rattle.model.specs.Check.{used, check_node, check_state, check_transition}
use Rattle.model.proofs.Laws.Answers.{then_left, then_right, each_at, require_true}
use Rattle.model.proofs.Laws.Node.{input_a_earlier, input_b_earlier}
use Rattle.model.proofs.Laws.Tests.{word_true, word_there_lem, and_left, and_right, not_true, within_low, within_high}

module _ (plan : List ℕ) (s : ℕ) (passed : check_state plan s ≡ accepted) where
  node_passed : (i : ℕ) → i < node_count plan s → check_node plan s i ≡ accepted
  unfolding check_state
  node_passed i h = each_at _ _ (then_right _ _ (then_left _ _ (then_left _ _ (then_left _ _ passed)))) i h

  pub target_below : (t : ℕ) → t < transition_count plan s → target_state plan s t < state_count plan
  unfolding check_state check_transition
  target_below t h = ltb-true _ _ (word_true _ _ _ _ (then_right _ _ (each_at _ _ (then_right _ _ passed) t h)))

  pub condition_below : (t : ℕ) → t < transition_count plan s → condition_parameter plan s t < parameter_count plan
  unfolding check_state check_transition
  condition_below t h = ltb-true _ _ (word_true _ _ _ _ (then_left _ _ (then_left _ _ (each_at _ _ (then_right _ _ passed) t h))))

  pub clip_below : (i : ℕ) → i < node_count plan s → is_clip plan s i ≡ true → input_a plan s i < clip_count plan
  unfolding check_node
  clip_below i h e = ltb-true _ _ (rw e at (word_true _ _ _ _ (then_right _ _ (then_left _ _ (then_left _ _ (node_passed i h))))))

  pub a_earlier : (i : ℕ) → i < node_count plan s → is_clip plan s i ≡ false → input_a plan s i < i
  a_earlier i h e = input_a_earlier plan s i (node_passed i h) e

  pub b_earlier : (i : ℕ) → i < node_count plan s → is_clip plan s i ≡ false → input_b plan s i < i
  b_earlier i h e = input_b_earlier plan s i (node_passed i h) e

  pub parameter_below : (i : ℕ) → i < node_count plan s → is_clip plan s i ≡ false → node_parameter plan s i < parameter_count plan
  unfolding check_node
  parameter_below i h e = ltb-true _ _ (rw e at (word_true _ _ _ _ (then_right _ _ (node_passed i h))))

  -- ---- no node is an input twice, and all but the root are one

  pub a_unused : (i : ℕ) → i < node_count plan s → is_clip plan s i ≡ false → used plan s i (input_a plan s i) ≡ false
  unfolding check_node
  a_unused i h e = not_true _ (and_right (ltb (input_a plan s i) i) _ (rw e at (word_true _ _ _ _ (then_right _ _ (then_left _ _ (then_left _ _ (node_passed i h)))))))

  b_tests : (i : ℕ) → i < node_count plan s → is_clip plan s i ≡ false → ltb (input_b plan s i) i && not (used plan s i (input_b plan s i)) && not (eqb (input_a plan s i) (input_b plan s i)) ≡ true
  unfolding check_node
  b_tests i h e = rw e at (word_true _ _ _ _ (then_right _ _ (then_left _ _ (node_passed i h))))

  pub b_unused : (i : ℕ) → i < node_count plan s → is_clip plan s i ≡ false → used plan s i (input_b plan s i) ≡ false
  b_unused i h e = not_true _ (and_right (ltb (input_b plan s i) i) _ (and_left _ (not (eqb (input_a plan s i) (input_b plan s i))) (b_tests i h e)))

  pub inputs_differ : (i : ℕ) → i < node_count plan s → is_clip plan s i ≡ false → eqb (input_a plan s i) (input_b plan s i) ≡ false
  inputs_differ i h e = not_true _ (and_right (ltb (input_b plan s i) i && not (used plan s i (input_b plan s i))) _ (b_tests i h e))

  pub all_used : (k : ℕ) → k < node_count plan s - 1 → used plan s (node_count plan s) k ≡ true
  unfolding check_state
  all_used k h = require_true _ _ _ (each_at _ _ (then_right _ _ (then_left _ _ (then_left _ _ passed))) k h)

  -- ---- counts

  pub some_nodes : 0 < node_count plan s
  unfolding check_state
  some_nodes = within_low _ _ _ (word_true _ _ _ _ (then_left _ _ (then_left _ _ (then_left _ _ (then_left _ _ passed)))))

  pub few_nodes : node_count plan s ≤ max_nodes
  unfolding check_state
  few_nodes = within_high _ _ _ (word_true _ _ _ _ (then_left _ _ (then_left _ _ (then_left _ _ (then_left _ _ passed)))))

  pub few_transitions : transition_count plan s ≤ max_transitions
  unfolding check_state
  few_transitions = leb-true _ _ (word_true _ _ _ _ (then_right _ _ (then_left _ _ passed)))

  pub few_clip_nodes : (i : ℕ) → i < node_count plan s → is_clip plan s i ≡ true → clip_node_at plan s i < max_clip_nodes
  unfolding check_node
  few_clip_nodes i h e = ltb-true _ _ (rw e at (require_true _ _ _ (then_right _ _ (then_left _ _ (then_left _ _ (then_left _ _ (node_passed i h)))))))

  -- ---- every word is there

  pub state_there : state_at plan s < length plan
  unfolding check_state
  state_there = word_there_lem _ _ _ _ (then_left _ _ (then_left _ _ (then_left _ _ (then_left _ _ passed))))

  pub node_there : (i : ℕ) → i < node_count plan s → node_parameter_at plan s i < length plan
  unfolding check_node
  node_there i h = word_there_lem _ _ _ _ (then_right _ _ (node_passed i h))

  pub transition_count_there : transition_count_at plan s < length plan
  unfolding check_state
  transition_count_there = word_there_lem _ _ _ _ (then_right _ _ (then_left _ _ passed))

  pub transition_there : (t : ℕ) → t < transition_count plan s → target_state_at plan s t < length plan
  unfolding check_state check_transition
  transition_there t h = word_there_lem _ _ _ _ (then_right _ _ (each_at _ _ (then_right _ _ passed) t h))
