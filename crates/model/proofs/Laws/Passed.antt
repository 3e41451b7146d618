-- Facts about a plan whose check accepted.
use Rattle.std.specs.Prelude.{ℕ, ◌*◌, ◌≤◌, ◌<◌, ◌≡◌, Bool, List, length, ltb}
use Rattle.std.proofs.Common.{arith, ◌∙◌}
use Rattle.std.proofs.Math.Path.{refl, sym}
use Rattle.std.proofs.Math.Bool.{true, false}
use Rattle.std.proofs.Math.Dec.{leb}
use borrow.Author.Tests.{ltb-true, eqb-true, le-leb, lt-leb}
use Rattle.model.specs.Answers.{accepted, each}
use Rattle.model.specs.Plan.{max_joints, max_clips, max_parameters, max_states, max_samples, max_transitions, joint_count, clip_count, parameter_count, state_count, initial_state, initial_state_at, parent_at, parent, is_root, sample_count_at, sample_count, ending_at, node_count, clip_nodes_among, clip_nodes_before, transition_count, transitions_before, numbers_length}
use Rattle.model.specs.Check.{check, check_header, check_parent, check_clip, check_state}
use Rattle.model.proofs.Laws.Header as header
use Rattle.model.proofs.Laws.Answers.{then_left, then_right, each_at, require_true}
use Rattle.model.proofs.Laws.Roots.{root_above}
use Rattle.model.proofs.Laws.Tests.{word_true, word_there_lem, or_right, within_high}
use Rattle.model.proofs.Laws.State.{target_below, few_nodes, few_transitions}
use Rattle.model.proofs.Laws.Totals.{total_most}
use Rattle.model.proofs.Laws.Trees.{clip_nodes_half}
use Rattle.model.specs.Unseen.{Reachable, initial, target}

module _ (plan : List ℕ) (n : ℕ) (ok : check plan n ≡ accepted) where
  -- the check's six parts
  header_passed : check_header plan ≡ accepted
  unfolding check
  header_passed = then_left _ _ (then_left _ _ (then_left _ _ (then_left _ _ (then_left _ _ ok))))

  parents_passed : each (joint_count plan) (check_parent plan) ≡ accepted
  unfolding check
  parents_passed = then_right _ _ (then_left _ _ (then_left _ _ (then_left _ _ (then_left _ _ ok))))

  clips_passed : each (clip_count plan) (check_clip plan) ≡ accepted
  unfolding check
  clips_passed = then_right _ _ (then_left _ _ (then_left _ _ (then_left _ _ ok)))

  states_passed : each (state_count plan) (check_state plan) ≡ accepted
  unfolding check
  states_passed = then_right _ _ (then_left _ _ (then_left _ _ ok))

  -- what follows
  pub initial_below : initial_state plan < state_count plan
  initial_below = header.initial_below plan header_passed

  pub parent_earlier : (j : ℕ) → j < joint_count plan → is_root plan j ≡ false → parent plan j < j
  unfolding check_parent
  parent_earlier j h e = ltb-true _ _ (or_right (is_root plan j) (ltb (parent plan j) j) (word_true _ _ _ _ (each_at _ _ parents_passed j h)) e)

  pub few_samples : (c : ℕ) → c < clip_count plan → sample_count plan c ≤ max_samples
  unfolding check_clip
  few_samples c h = within_high _ _ _ (word_true _ _ _ _ (then_left _ _ (each_at _ _ clips_passed c h)))

  pub state_passed : (s : ℕ) → s < state_count plan → check_state plan s ≡ accepted
  state_passed s below = each_at _ _ states_passed s below

  pub header_there : initial_state_at < length plan
  header_there = header.header_there plan header_passed

  pub some_joints : 0 < joint_count plan
  some_joints = header.some_joints plan header_passed

  pub few_joints : joint_count plan ≤ max_joints
  few_joints = header.few_joints plan header_passed

  -- a joint is a root exactly where its parent is no earlier joint
  pub root_by_parent : (j : ℕ) → j < joint_count plan → is_root plan j ≡ leb j (parent plan j)
  unfolding is_root
  root_by_parent j h = go (is_root plan j) refl
    where
      go : (t : Bool) → is_root plan j ≡ t → is_root plan j ≡ leb j (parent plan j)
      go true e = e ∙ sym (le-leb _ _ (root_above (joint_count plan) (parent plan j) j few_joints h e))
      go false e = e ∙ sym (lt-leb _ _ (parent_earlier j h e))

  pub few_clips : clip_count plan ≤ max_clips
  few_clips = header.few_clips plan header_passed

  pub few_states : state_count plan ≤ max_states
  few_states = header.few_states plan header_passed

  pub few_parameters : parameter_count plan ≤ max_parameters
  few_parameters = header.few_parameters plan header_passed

  pub parent_there : (j : ℕ) → j < joint_count plan → parent_at j < length plan
  unfolding check_parent
  parent_there j h = word_there_lem _ _ _ _ (each_at _ _ parents_passed j h)

  pub sample_count_there : (c : ℕ) → c < clip_count plan → sample_count_at plan c < length plan
  unfolding check_clip
  sample_count_there c h = word_there_lem _ _ _ _ (then_left _ _ (each_at _ _ clips_passed c h))

  pub ending_there : (c : ℕ) → c < clip_count plan → ending_at plan c < length plan
  unfolding check_clip
  ending_there c h = word_there_lem _ _ _ _ (then_right _ _ (each_at _ _ clips_passed c h))

  -- sums over the states
  pub few_transitions_before : (s : ℕ) → s ≤ state_count plan → transitions_before plan s ≤ s * max_transitions
  unfolding transitions_before
  few_transitions_before s h = total_most (transition_count plan) max_transitions s (λ u l. few_transitions plan u (state_passed u (omega arith)))

  pub few_clip_nodes_before : (s : ℕ) → s ≤ state_count plan → clip_nodes_before plan s ≤ s * 16
  unfolding clip_nodes_before
  few_clip_nodes_before s h =
      total_most (λ u. clip_nodes_among plan u (node_count plan u)) 16 s
      (λ u l. let ok-state = state_passed u (omega arith) in omega (arith, clip_nodes_half plan u ok-state, few_nodes plan u ok-state))

  pub numbers_fit : n ≡ numbers_length plan
  unfolding check
  numbers_fit = eqb-true _ _ (require_true _ _ _ (then_right _ _ ok))

  pub reachable_below : {s : ℕ} → Reachable plan s → s < state_count plan
  reachable_below initial = initial_below
  -- the check has seen every target
  reachable_below (target r t h) = target_below plan _ (state_passed _ (reachable_below r)) t h
