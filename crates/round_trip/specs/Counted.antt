-- The figures that a text can hold: words and bits of their width, counts within the reader's limits, as many words and numbers as the counts say.
-- Definitions only.
use Rattle.std.specs.Prelude.{ℕ, ◌≤◌, ◌<◌, ◌^◌, ◌≡◌, List, length, get_or}
use Rattle.model.specs.Plan.{max_joints, max_clips, max_parameters, max_states, max_samples, max_nodes, max_transitions, word, joint_count, clip_count, parameter_count, state_count, sample_count, node_count, transition_count, plan_end, numbers_length}
use Rattle.model.specs.Text.{max_word}

-- a plan, and how many numbers go with it
pub record CountedPlan (plan : List ℕ) (numbers : ℕ) : Type 0 where
  pub words : (i : ℕ) → word plan i ≤ max_word
  pub joints : joint_count plan ≤ max_joints
  pub clips : clip_count plan ≤ max_clips
  pub parameters : parameter_count plan ≤ max_parameters
  pub states : state_count plan ≤ max_states
  pub samples : (c : ℕ) → c < clip_count plan → sample_count plan c ≤ max_samples
  pub nodes : (s : ℕ) → s < state_count plan → node_count plan s ≤ max_nodes
  pub transitions : (s : ℕ) → s < state_count plan → transition_count plan s ≤ max_transitions
  pub plan_length : length plan ≡ plan_end plan
  pub numbers_count : numbers ≡ numbers_length plan

pub record Counted (plan bits : List ℕ) : Type 0 where
  pub counts : CountedPlan plan (length bits)
  pub patterns : (i : ℕ) → get_or bits i 0 < 2 ^ 32
