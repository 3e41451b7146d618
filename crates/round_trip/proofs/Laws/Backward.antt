-- A text that is read to a figure is that figure's text, and the figure's counts are within the limits.
use Prim.Native.Nat.{ℕ, suc, ◌+◌, ◌≤◌, ◌<◌}
use native.Mathlib.Omega.{arith}
use Rattle.std.specs.Prelude.{◌≡◌}
use Rattle.std.proofs.Math.Path.{refl, sym, ap, subst}
use Rattle.std.proofs.Common.{◌∙◌}
use mathlib.Core.List.{List, [], ◌∷◌, ◌++◌}
use Rattle.std.proofs.Math.ListN.{length, get_or}
use Rattle.std.proofs.Math.Dec.{eqb-suc-zero}
use Rattle.model.specs.declared.LineKind.TheVariants.{Figure, Clip, State, Node, Go}
use Rattle.model.specs.Plan.{max_samples, max_nodes, max_transitions, word, joint_count, clip_count, state_count, parent_at, sample_count_at, sample_count, state_at, node_count, transition_count_at, transition_count, plan_end, total, transitions_before, poses_at, numbers_length}
use Rattle.model.specs.Text.{front, forms, words_in, bits_in, Reading, bad, got, prefixed, and_then, times, read_line, from_state, read_state, read_end, read_figure}
use Rattle.model.specs.Program.{part, line_text, state_text, figure_text}
use Rattle.round_trip.proofs.Laws.Lines.{Within, line_written}
use Rattle.round_trip.proofs.Laws.Parts.{Holds, part_one, part_two, holds_all}
use Rattle.round_trip.proofs.Laws.Rows.{WithinAt}
use Rattle.round_trip.proofs.Laws.Shape.{numbers_at, joint_row, clip_row, node_row, go_row, pose_row, nodes, transitions, states, state_text_lem, figure_text_lem, joints_same, clips_same, states_same, samples_same}
use Rattle.round_trip.proofs.Laws.Writes.{Undone, bad_got, prefixed_cases, undone_none, undone_behind, undone_prefixed, undone_then, undone_map, undone_text, undone_moved, undone_times, undone_line, undone_row, undone_lines}

-- a state's line
record CountsLine (u : List ℕ) (ws bs rest : List ℕ) : Type 0 where
  nodes : ℕ
  transitions : ℕ
  words : ws ≡ nodes ∷ transitions ∷ []
  patterns : bs ≡ []
  few_nodes : nodes ≤ max_nodes
  few_transitions : transitions ≤ max_transitions
  text : u ≡ line_text State (nodes ∷ transitions ∷ []) [] ++ rest

counts_line : (u ws bs rest : List ℕ) (n : ℕ) → read_line State u ≡ got ws bs rest n → CountsLine u ws bs rest
unfolding forms words_in bits_in part
counts_line u ws bs rest n e =
    let back = line_written State u ws bs rest n e in
    let two : ws ≡ part ws 0 2 = sym (holds_all ws) ∙ ap (part ws 0) back.words in
    let none : bs ≡ [] = sym (holds_all bs) ∙ ap (part bs 0) back.patterns in
    let limited : Within (forms State) (part ws 0 2) bs = rw two at back.limited in
    record {
      nodes = get_or ws 0 0;
      transitions = get_or ws 1 0;
      words = two;
      patterns = none;
      few_nodes = limited.0;
      few_transitions = limited.1.0;
      text = back.text ∙ ap (λ (v : List ℕ). line_text State v bs ++ rest) two ∙ ap (λ (v : List ℕ). line_text State (part ws 0 2) v ++ rest) none;
    }

-- ---- the end

more_left : (b : ℕ) (s ws bs r : List ℕ) (n : ℕ) → read_end (b ∷ s) ≡ got ws bs r n → ⊥
unfolding read_end
more_left b s ws bs r n e = bad_got 1 ws bs r n (sym (rw eqb-suc-zero) ∙ e)

-- a reading that leaves no text
abbrev Ends : Reading → Type 0
Ends x = (ws bs r : List ℕ) (n : ℕ) → x ≡ got ws bs r n → r ≡ []

ends_end : (s : List ℕ) → Ends (read_end s)
unfolding read_end
ends_end [] ws bs r n e = cc
ends_end (b ∷ s) ws bs r n e = absurd (more_left b s ws bs r n e)

ends_then : (x : Reading) (next : List ℕ → List ℕ → Reading) → ((ws s : List ℕ) → Ends (next ws s)) → Ends (and_then x next)
unfolding and_then
ends_then (bad m) next later ws bs r n e = absurd (bad_got m ws bs r n e)
ends_then (got ws₁ bs₁ s m) next later ws bs r n e = prefixed_cases (λ us vs. r ≡ []) ws₁ bs₁ m (next ws₁ s) r (λ us vs k f. later ws₁ s us vs r k f) ws bs n e

pub ends_figure : (text : List ℕ) → Ends (read_figure text)
unfolding read_figure
ends_figure text =
    ends_then _ _ (λ header s₁. ends_then _ _ (λ _ s₂. ends_then _ _ (λ _ s₃. ends_then _ _ (λ _ s₄. ends_then _ _ (λ _. ends_end)))))

module _ (plan bits : List ℕ) where
  at_word : (a k : ℕ) → Holds plan a (k ∷ []) → k ≡ word plan a
  unfolding word
  at_word a k h = ap (λ (us : List ℕ). get_or us 0 0) (sym h ∙ part_one plan a)

  -- T, and the transitions
  undone_transitions : (s t : ℕ) (u : List ℕ) → t ≤ max_transitions
      → Undone plan bits (prefixed (t ∷ []) [] 0 (times t (read_line Go) u)) u (transitions plan bits s)
      (transition_count_at plan s) (state_at plan (suc s)) (numbers_at plan s) (numbers_at plan (suc s)) (t ≡ transition_count plan s)
  unfolding transition_count
  undone_transitions s t u few =
      let text = transitions plan bits s in
      let a = transition_count_at plan s in
      let b = state_at plan (suc s) in
      let c = numbers_at plan s in
      let d = numbers_at plan (suc s) in
      undone_map plan bits (λ f. f.1)
      (undone_prefixed plan bits (t ∷ []) [] 0 (times t (read_line Go) u) u text a (a + 1) b c c d (omega arith, tt) tt refl (omega arith)
      (λ h.
      let e : t ≡ transition_count plan s = at_word a t h in
      undone_map plan bits (λ _. e)
      (subst (λ (k : ℕ). Undone plan bits (times k (read_line Go) u) u text (a + 1) b c d (Unit {0})) (sym e) (undone_lines plan bits (go_row plan s) u))))

  abbrev Few : ℕ → Type 0
  Few s = (node_count plan s ≤ max_nodes) × (transition_count plan s ≤ max_transitions)

  abbrev StateUndone : ℕ → List ℕ → Reading → Type 0
  StateUndone s u x = Undone plan bits x u (state_text plan bits s) (state_at plan s) (state_at plan (suc s)) (numbers_at plan s) (numbers_at plan (suc s)) (Few s)

  undone_counted : (s k t : ℕ) (u rest : List ℕ) (n : ℕ) → k ≤ max_nodes → t ≤ max_transitions → u ≡ line_text State (k ∷ t ∷ []) [] ++ rest
      → StateUndone s u (from_state (got (k ∷ t ∷ []) [] rest n))
  unfolding from_state node_count
  undone_counted s k t u rest n few_nodes few_transitions written =
      let next : List ℕ → List ℕ → Reading = λ _ v. prefixed (t ∷ []) [] 0 (times t (read_line Go) v) in
      let more = nodes plan bits s ++ transitions plan bits s in
      let a = state_at plan s in
      let b = state_at plan (suc s) in
      let c = numbers_at plan s in
      let d = numbers_at plan (suc s) in
      undone_map plan bits (λ (f : Same k t). (omega (arith, f.0), omega (arith, f.1.1)))
      (undone_text plan bits (λ (f : Same k t). rw (f.0, f.1.1) (sym (state_text_lem plan bits s)))
      (undone_behind plan bits (k ∷ []) [] n (and_then (times k (read_line Node) rest) next) u (line_text State (k ∷ t ∷ []) []) rest more a (a + 1) b c c d
      (λ h g. record { written = written; words_end = refl; bits_end = omega arith; words_most = (omega arith, tt); bits_most = tt; facts = at_word a k h })
      (λ h _.
      subst
      (λ (j : ℕ). Undone plan bits (and_then (times j (read_line Node) rest) next) rest more (a + 1) b c d (Unit {0} × (t ≡ transition_count plan s)))
      (sym (at_word a k h))
      (undone_then plan bits _ next rest (nodes plan bits s) (transitions plan bits s) (a + 1) (transition_count_at plan s) b c c d
      (undone_lines plan bits (node_row plan s) rest) (λ ws v _ _. undone_transitions s t v few_transitions)))))
    where
      Same : ℕ → ℕ → Type 0
      Same k t = (k ≡ node_count plan s) × (Unit {0} × (t ≡ transition_count plan s))

  undone_state : (s : ℕ) (u : List ℕ) → StateUndone s u (read_state u)
  unfolding read_state from_state
  undone_state s u = go (read_line State u) refl
    where
      go : (x : Reading) → read_line State u ≡ x → StateUndone s u (from_state x)
      go (bad m) e = λ ws bs r n f h g. absurd (bad_got m ws bs r n f)
      go (got ws bs rest n) e =
          let l = counts_line u ws bs rest n e in
          subst (λ (v : List ℕ). StateUndone s u (from_state (got ws v rest n))) (sym l.patterns)
          (subst (λ (v : List ℕ). StateUndone s u (from_state (got v [] rest n))) (sym l.words)
          (undone_counted s l.nodes l.transitions u rest n l.few_nodes l.few_transitions l.text))

  undone_states : (u : List ℕ) → Undone plan bits (times (state_count plan) read_state u) u (states plan bits)
      (state_at plan 0) (plan_end plan) (clip_count plan) (poses_at plan) ((s : ℕ) → s < state_count plan → Few s)
  unfolding plan_end poses_at transitions_before total
  undone_states u =
      undone_moved plan bits
      (undone_times plan bits read_state (state_text plan bits) (state_at plan) (numbers_at plan) Few undone_state (state_count plan) u)
      refl refl (omega arith) refl

  undone_end : (u : List ℕ) (a c : ℕ) → Undone plan bits (read_end u) u [] a a c c (Unit {0})
  unfolding read_end
  undone_end [] a c = undone_none plan bits [] a c
  undone_end (b ∷ u) a c = λ ws bs r n e h g. absurd (more_left b u ws bs r n e)

  -- what the lines' limits say of the counts
  pub record Limits : Type 0 where
    pub header : Within (forms Figure) (part plan 0 5) []
    pub samples : (c : ℕ) → c < clip_count plan → sample_count plan c ≤ max_samples
    pub states : (s : ℕ) → s < state_count plan → Few s

  abbrev Fits : Type 0
  Fits = (c : ℕ) → c < clip_count plan → WithinAt plan bits Clip (sample_count_at plan c) c

  limits_of : WithinAt plan bits Figure 0 0 × (Unit {0} × (Fits × (((s : ℕ) → s < state_count plan → Few s) × (Unit {0} × Unit {0})))) → Limits
  unfolding forms words_in bits_in sample_count word
  limits_of f = record {
    header = f.0;
    samples = λ c h. omega (arith, (f.1.1.0 c h).0, ap front (part_two plan (sample_count_at plan c)));
    states = f.1.1.1.0;
  }

  pub undone_figure : (text : List ℕ) → Undone plan bits (read_figure text) text (figure_text plan bits) 0 (plan_end plan) 0 (numbers_length plan) Limits
  unfolding read_figure forms words_in bits_in state_at sample_count_at
  undone_figure text =
      undone_text plan bits (λ _. sym (figure_text_lem plan bits))
      (undone_map plan bits limits_of
      (undone_then plan bits _ _ text _ _ 0 (parent_at 0) _ 0 0 _ (undone_line plan bits Figure 0 (parent_at 0) 0 0 refl refl text)
      (λ words s₁ h end.
      let five : length words ≡ 5 = omega arith in
      rw (joints_same plan words h five, clips_same plan words h five, states_same plan words h five)
      (undone_then plan bits _ _ s₁ _ _ _ (parent_at (joint_count plan)) _ _ 0 _ (undone_lines plan bits (joint_row plan) s₁)
      (λ _ s₂ _ _. undone_then plan bits _ _ s₂ _ _ _ (state_at plan 0) _ _ (clip_count plan) _ (undone_row plan bits (clip_row plan) s₂)
      (λ words s₃ g count. undone_then plan bits _ _ s₃ _ _ _ (plan_end plan) _ _ (poses_at plan) _ (undone_states s₃)
      (λ _ s₄ _ _.
      rw (samples_same plan words g (omega arith))
      (undone_then plan bits _ _ s₄ _ [] _ (plan_end plan) _ _ (numbers_length plan) _ (undone_lines plan bits (pose_row plan) s₄)
      (λ _ s₅ _ _. undone_end s₅ (plan_end plan) (numbers_length plan))))))))))
