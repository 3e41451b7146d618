-- The text of a figure whose counts are within the limits is read to that figure.
use Rattle.std.specs.Prelude.{ℕ, suc, ◌+◌, ◌*◌, ◌≤◌, ◌<◌, ◌≡◌, get_or}
use Rattle.std.proofs.Common.{arith}
use Rattle.std.proofs.Math.Path.{refl}
use mathlib.Core.List.{List, [], ◌∷◌, ◌++◌, append_assoc}
use Rattle.std.proofs.Math.ListN.{length}
use Rattle.model.specs.declared.LineKind.{LineKind}
use Rattle.model.specs.declared.LineKind.TheVariants.{Figure, Joint, Clip, State, Node, Go, Pose}
use Rattle.model.specs.Plan.{clip_words, word, joint_count, clip_count, parameter_count, state_count, parent_at, sample_count_at, sample_count, state_at, node_count, kind_at, transition_count_at, transition_count, condition_parameter_at, plan_end, total, transitions_before, poses_at, numbers_length}
use Rattle.model.specs.Text.{max_word, forms, words_in, bits_in, times, from_state, read_state, read_end, read_figure}
use Rattle.model.specs.Program.{part, line_text, state_text, figure_text}
use Rattle.round_trip.specs.Counted.{Counted}
use Rattle.round_trip.proofs.Laws.Fields.{max_pattern}
use Rattle.model.proofs.Laws.Text.{EachLimit}
use Rattle.round_trip.proofs.Laws.Lines.{most_part, any_within, line_read}
use Rattle.round_trip.proofs.Laws.Parts.{part_one, part_two, spans_one, spans_none}
use Rattle.round_trip.proofs.Laws.Rows.{WithinAt}
use Rattle.round_trip.proofs.Laws.Shape.{numbers_at, go_numbers_at, pose_place, joint_row, clip_row, node_row, go_row, pose_row, joints, clips, counts, nodes, transitions, states, poses, state_text_lem, figure_text_lem, joints_same, clips_same, states_same, samples_same}
use Rattle.round_trip.proofs.Laws.Reads.{Got, got_none, got_prefixed, got_then, got_moved, got_times, got_line, got_row}

module _ (plan bits : List ℕ) (ok : Counted plan bits) where
  -- ---- each line is within its limits

  pattern_most : (i : ℕ) → get_or bits i 0 ≤ max_pattern
  pattern_most i = omega (arith, ok.patterns i)

  header_fits : WithinAt plan bits Figure 0 0
  unfolding forms words_in bits_in part joint_count clip_count parameter_count state_count word
  header_fits = (ok.counts.joints, (ok.counts.clips, (ok.counts.parameters, (ok.counts.states, (ok.counts.words 4, tt)))))

  clip_fits : (c : ℕ) → c < clip_count plan → WithinAt plan bits Clip (sample_count_at plan c) c
  unfolding forms words_in bits_in sample_count word
  clip_fits c h = rw (part_two plan (sample_count_at plan c), part_one bits c) (ok.counts.samples c h, (pattern_most c, (ok.counts.words (sample_count_at plan c + 1), tt)))

  -- those whose words may be any
  any_fits : (kind : LineKind) (a c : ℕ) → EachLimit (λ limit. max_word ≤ limit) (forms kind) → WithinAt plan bits kind a c
  unfolding word
  any_fits kind a c any = any_within (forms kind) _ _ any (most_part max_word plan ok.counts.words a _) (most_part max_pattern bits pattern_most c _)

  -- ---- what is read

  got_state : (s : ℕ) → s < state_count plan → (r : List ℕ)
      → Got plan bits (read_state (state_text plan bits s ++ r)) r (state_at plan s) (state_at plan (suc s)) (numbers_at plan s) (numbers_at plan (suc s))
  unfolding forms words_in bits_in read_state from_state node_count transition_count word
  got_state s h r =
      let rest = nodes plan bits s ++ (transitions plan bits s ++ r) in
      let text : state_text plan bits s ++ r ≡ line_text State (counts plan bits s) [] ++ rest = rw (state_text_lem plan bits s) (simp append_assoc) in
      rw (text, line_read State (counts plan bits s) [] rest refl refl (ok.counts.nodes s h, (ok.counts.transitions s h, tt)))
      (got_prefixed plan bits (node_count plan s ∷ []) [] 1 (spans_one plan (state_at plan s)) (spans_none bits (numbers_at plan s))
      (got_then plan bits _ (got_row plan bits (node_row plan s) (λ i _. any_fits Node (kind_at plan s i) (numbers_at plan s) (omega arith)) (transitions plan bits s ++ r))
      (got_prefixed plan bits (transition_count plan s ∷ []) [] 0 (spans_one plan (transition_count_at plan s)) (spans_none bits (numbers_at plan s))
      (got_row plan bits (go_row plan s) (λ t _. any_fits Go (condition_parameter_at plan s t) (go_numbers_at plan s t) (omega arith)) r))))

  got_states : (r : List ℕ)
      → Got plan bits (times (state_count plan) read_state (states plan bits ++ r)) r (state_at plan 0) (plan_end plan) (clip_count plan) (poses_at plan)
  unfolding plan_end poses_at transitions_before total
  got_states r =
      got_moved plan bits
      (got_times plan bits read_state (state_text plan bits) (state_at plan) (numbers_at plan) (state_count plan) got_state r)
      refl refl (omega arith) refl

  pub got_figure : Got plan bits (read_figure (figure_text plan bits)) [] 0 (plan_end plan) 0 (numbers_length plan)
  unfolding read_figure read_end forms words_in bits_in state_at sample_count_at
  got_figure =
      let after-states = poses plan bits ++ [] in
      let after-clips = states plan bits ++ after-states in
      let after-joints = clips plan bits ++ after-clips in
      let header = got_line plan bits Figure 0 (parent_at 0) 0 0 header_fits refl refl (joints plan bits ++ after-joints) in
      let h = header.in_plan.same in
      let five : length header.words ≡ 5 = omega (arith, header.in_plan.end) in
      let words = got_row plan bits (clip_row plan) clip_fits after-clips in
      let count : length words.words ≡ clip_words * clip_count plan = omega (arith, words.in_plan.end) in
      rw (figure_text_lem plan bits)
      (got_then plan bits _ header
      (rw (joints_same plan header.words h five, clips_same plan header.words h five, states_same plan header.words h five)
      (got_then plan bits _ (got_row plan bits (joint_row plan) (λ j _. any_fits Joint (parent_at j) 0 (omega arith)) after-joints)
      (got_then plan bits _ words
      (got_then plan bits _ (got_states after-states)
      (rw (samples_same plan words.words words.in_plan.same count)
      (got_then plan bits _ (got_row plan bits (pose_row plan) (λ m _. any_fits Pose (plan_end plan) (pose_place plan m) tt) []) (got_none plan bits [] (plan_end plan) (numbers_length plan)))))))))
