-- The rows of lines that a figure's text is made of, and the counts that are read from its first lines.
use Rattle.std.specs.Prelude.{ℕ, suc, ◌+◌, ◌*◌, ◌≡◌, length}
use native.Mathlib.Omega.{arith}
use mathlib.Core.List.{List, [], ◌∷◌, ◌++◌, append_assoc, append-nil}
use Rattle.std.proofs.Math.ListN.{get_or}
use Rattle.model.specs.declared.LineKind.TheVariants.{Figure, Joint, Clip, State, Node, Go, Pose}
use Rattle.model.specs.Plan.{clip_words, word, joint_count, clip_count, state_count, parent_at, sample_count_at, sample_count, after_nodes, after_transitions, state_at, node_count, kind_at, transition_count_at, transition_count, condition_parameter_at, plan_end, total, transitions_before, samples_before, Value, poses_at, number_at, numbers_length}
use Rattle.model.proofs.Laws.Totals.{total_same}
use Rattle.model.specs.Text.{forms, words_in, bits_in, samples_in}
use Rattle.model.specs.Program.{joined, part, line_text, state_text, figure_text}
use Rattle.round_trip.proofs.Laws.Parts.{Holds, holds_get_or}
use Rattle.round_trip.proofs.Laws.Rows.{line_at, Row, row_text}

-- ---- the rows

module _ (plan : List ℕ) where
  -- the first number of a state's transitions, and the numbers of one transition and one pose
  abbrev pub numbers_at : ℕ → ℕ
  numbers_at s = clip_count plan + 2 * transitions_before plan s

  abbrev pub go_numbers_at : ℕ → ℕ → ℕ
  go_numbers_at s t = number_at plan (Value s t)

  abbrev pub pose_place : ℕ → ℕ
  pose_place m = poses_at plan + 8 * m

  abbrev pub all_poses : ℕ
  all_poses = samples_before plan (clip_count plan) * joint_count plan

  pub joint_row : Row Joint (joint_count plan) parent_at (λ j. 0) (parent_at 0) (parent_at (joint_count plan)) 0 0
  unfolding forms words_in bits_in
  joint_row = omega arith

  pub clip_row : Row Clip (clip_count plan) (sample_count_at plan) (λ c. c) (parent_at (joint_count plan)) (state_at plan 0) 0 (clip_count plan)
  unfolding forms words_in bits_in sample_count_at state_at
  clip_row = omega arith

  pub node_row : (s : ℕ)
      → Row Node (node_count plan s) (kind_at plan s) (λ i. numbers_at s)
      (state_at plan s + 1) (transition_count_at plan s) (numbers_at s) (numbers_at s)
  unfolding forms words_in bits_in kind_at transition_count_at after_nodes node_count
  node_row s = omega arith

  pub go_row : (s : ℕ)
      → Row Go (transition_count plan s) (condition_parameter_at plan s) (go_numbers_at s)
      (transition_count_at plan s + 1) (state_at plan (suc s)) (numbers_at s) (numbers_at (suc s))
  unfolding forms words_in bits_in condition_parameter_at transition_count_at after_transitions state_at transition_count number_at transitions_before total
  go_row s = omega arith

  pub pose_row : Row Pose all_poses (λ m. plan_end plan) pose_place (plan_end plan) (plan_end plan) (poses_at plan) (numbers_length plan)
  unfolding forms words_in bits_in numbers_length
  pose_row = omega arith

-- ---- the text, from the left

module _ (plan bits : List ℕ) where
  abbrev pub header : List ℕ
  header = line_at plan bits Figure 0 0

  abbrev pub joints : List ℕ
  joints = row_text plan bits Joint (joint_count plan) parent_at (λ j. 0)

  abbrev pub clips : List ℕ
  clips = row_text plan bits Clip (clip_count plan) (sample_count_at plan) (λ c. c)

  abbrev pub counts : ℕ → List ℕ
  counts s = node_count plan s ∷ transition_count plan s ∷ []

  abbrev pub nodes : ℕ → List ℕ
  nodes s = row_text plan bits Node (node_count plan s) (kind_at plan s) (λ i. numbers_at plan s)

  abbrev pub transitions : ℕ → List ℕ
  transitions s = row_text plan bits Go (transition_count plan s) (condition_parameter_at plan s) (go_numbers_at plan s)

  abbrev pub states : List ℕ
  states = joined (state_count plan) (state_text plan bits)

  abbrev pub poses : List ℕ
  poses = row_text plan bits Pose (all_poses plan) (λ m. plan_end plan) (pose_place plan)

  pub state_text_lem : (s : ℕ) → state_text plan bits s ≡ line_text State (counts s) [] ++ (nodes s ++ transitions s)
  unfolding state_text forms words_in bits_in part
  state_text_lem s = append_assoc (line_text State (counts s) []) (nodes s) (transitions s)

  pub figure_text_lem : figure_text plan bits ≡ header ++ (joints ++ (clips ++ (states ++ (poses ++ []))))
  unfolding figure_text forms words_in bits_in part number_at
  figure_text_lem = simp (append_assoc, append-nil)

-- ---- counts

module _ (plan : List ℕ) where
  module _ (header : List ℕ) (h : Holds plan 0 header) (five : length header ≡ 5) where
    pub joints_same : joint_count header ≡ joint_count plan
    unfolding joint_count word
    joints_same = holds_get_or plan 0 header h 0 (omega arith)

    pub clips_same : clip_count header ≡ clip_count plan
    unfolding clip_count word
    clips_same = holds_get_or plan 0 header h 1 (omega arith)

    pub states_same : state_count header ≡ state_count plan
    unfolding state_count word
    states_same = holds_get_or plan 0 header h 3 (omega arith)

  pub samples_same : (clips : List ℕ) → Holds plan (parent_at (joint_count plan)) clips → length clips ≡ clip_words * clip_count plan
      → samples_in clips (clip_count plan) ≡ samples_before plan (clip_count plan)
  unfolding samples_before sample_count sample_count_at word
  samples_same clips h count =
      total_same (λ c. get_or clips (clip_words * c) 0) (sample_count plan) (clip_count plan)
      (λ c less. holds_get_or plan (parent_at (joint_count plan)) clips h (clip_words * c) (omega arith))
