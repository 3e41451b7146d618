-- Where the words and numbers of a passed plan stand, told from its layouts. Assumes nothing.
use borrow.Author.Rules.{rules}
use Prim.Native.Nat.{ℕ, ◌+◌, ◌*◌, ◌/◌, ◌^◌, ◌≤◌, ◌<◌}
use native.Mathlib.Nat.{add-zero}
use native.Mathlib.Numerals.{add-one}
use native.Mathlib.Omega.{arith}
use mathlib.Core.Path.{◌≡◌, refl, ap, sym, subst, ◌∙◌}
use mathlib.Core.List.{List}
use lib.ListN.{length}
use lib.Ieee.{Float}
use mir.Syntax.{w64}
use mir.Val.{Fits}
use Rattle.model.specs.Answers.{accepted}
use Rattle.model.specs.Text.{max_word}
use Rattle.model.specs.Plan.{max_nodes, word, joint_count, clip_count, state_count, after_nodes, after_transitions, state_at, node_count, kind_at, transition_count_at, transition_count, condition_parameter_at, total, clip_nodes_before, transitions_before, number_at, Value, Duration, numbers_length}
use Rattle.model.specs.Check.{check, check_state}
use Rattle.model.proofs.Laws.State.{node_there, transition_there, transition_count_there, few_nodes, few_transitions}
use Rattle.model.proofs.Laws.Trees.{clip_nodes_divided}
use Rattle.model.proofs.Laws.Passed.{state_passed, few_joints, few_clips, few_states, few_transitions_before, few_clip_nodes_before, numbers_fit}
use Rattle.layout.specs.declared.Layout.{Layout}
use Rattle.layout.specs.declared.StateLayout.{StateLayout}
use Rattle.layout.specs.Layout.{Passes, Laid, InPlan, layout_of, state_layout}

-- what a plan that passed is to the laws below
pub laid_passes : {plan : List ℕ} {layout : Layout} → Laid plan layout → Passes plan
laid_passes {plan} laid = record { numbers = numbers_length plan; passed = laid.passed }

-- and what a figure's ghost fields say of its check
pub figure_passed : {plan : List ℕ} {layout : Layout} (numbers : List Float) → Laid plan layout → length numbers ≡ numbers_length plan → check plan (length numbers) ≡ accepted
figure_passed numbers laid whole = rw whole laid.passed

-- it passes with no other count of numbers
pub is_laid : (plan : List ℕ) (n : ℕ) (layout : Layout) → check plan n ≡ accepted → layout ≡ layout_of plan → Laid plan layout
is_laid plan n layout ok e = record { passed = subst (λ m. check plan m ≡ accepted) (numbers_fit plan n ok) ok; found = e }

-- ---- groups of words

-- group i of those of `size` words that begin at `at` is there
pub record Words (plan : List ℕ) (at size i : ℕ) : Type 0 where
  pub whole : at + size * i + size ≤ length plan

module _ {plan : List ℕ} (at size i : ℕ) where
  pub first_there : 0 < size → Words plan at size i → at + size * i < length plan
  first_there h w = omega arith

  pub word_there_lem : (k : ℕ) → k < size → Words plan at size i → at + size * i + k < length plan
  word_there_lem k h w = omega arith

-- and where a word is there, its place is a `usize`
pub place_fits : (plan : List ℕ) (n : ℕ) → length plan < 2 ^ 64 → n < length plan → Fits w64 n
place_fits plan n l h = omega arith

-- ---- the layout of a plan

module _ (plan : List ℕ) {l : Layout} (e : l ≡ layout_of plan) where
  pub joints_found : l.joints ≡ joint_count plan
  unfolding layout_of
  joints_found = ap (λ l. l.joints) e

  pub clips_found : l.clips ≡ clip_count plan
  unfolding layout_of
  clips_found = ap (λ l. l.clips) e

  pub states_found : l.states ≡ state_count plan
  unfolding layout_of
  states_found = ap (λ l. l.states) e

-- ---- a clip: its joints and number are so small that nothing overflows

pub clip_small : {plan : List ℕ} {l : Layout} {c : ℕ} → Passes plan → l ≡ layout_of plan → c < clip_count plan → (l.joints ≤ max_word) × (c ≤ max_word)
clip_small {plan} ok e h =
    (omega (arith, joints_found plan e, few_joints plan ok.numbers ok.passed), omega (arith, few_clips plan ok.numbers ok.passed))

-- ---- a state

module _ (plan : List ℕ) (ok : Passes plan) (s : ℕ) (below : s < state_count plan) where
  pub state_ok : check_state plan s ≡ accepted
  state_ok = state_passed plan ok.numbers ok.passed s below

  -- so small that nothing overflows
  pub clips_small : clip_nodes_before plan s ≤ max_word
  clips_small = omega (arith, few_states plan ok.numbers ok.passed, few_clip_nodes_before plan ok.numbers ok.passed s (omega arith))

  pub values_small : number_at plan (Value s 0) + 2 * transition_count plan s ≤ max_word
  unfolding number_at
  values_small =
      omega (arith, few_clips plan ok.numbers ok.passed, few_states plan ok.numbers ok.passed, few_transitions_before plan ok.numbers ok.passed s (omega arith), few_transitions plan s state_ok)

-- where its nodes and transitions stand
pub kind_place : (plan : List ℕ) (s from i : ℕ) → from ≡ kind_at plan s 0 → from + 4 * i ≡ kind_at plan s i
unfolding kind_at
kind_place plan s from i e = omega arith

pub condition_place : (plan : List ℕ) (s from t : ℕ) → from ≡ condition_parameter_at plan s 0 → from + 3 * t ≡ condition_parameter_at plan s t
unfolding condition_parameter_at
condition_place plan s from t e = omega arith

-- from the word at its place, which counts k nodes
module _ (plan : List ℕ) (s at k : ℕ) (place : at ≡ state_at plan s) (nodes : k ≡ word plan at) where
  pub nodes_are : k ≡ node_count plan s
  unfolding node_count
  nodes_are = rw (nodes, place)

  pub counts_read : check_state plan s ≡ accepted → at + 1 + 4 * k < length plan
  unfolding transition_count_at after_nodes
  counts_read ok = rw (nodes, place) (transition_count_there plan s ok)

  pub clips_next : check_state plan s ≡ accepted → (n : ℕ) → n ≡ clip_nodes_before plan s → n + (k + 1) / 2 ≡ clip_nodes_before plan (s + 1)
  unfolding clip_nodes_before total
  clips_next ok n h = rw (add-one s, h, nodes_are, clip_nodes_divided plan s ok)

  -- and the word after these, which counts t transitions
  module _ (t : ℕ) (transitions : t ≡ word plan (at + 1 + 4 * k)) where
    pub transitions_are : t ≡ transition_count plan s
    unfolding transition_count transition_count_at after_nodes
    transitions_are = rw (transitions, nodes, place)

    pub state_next : at + 1 + 4 * k + 1 + 3 * t ≡ state_at plan (s + 1)
    unfolding state_at after_transitions after_nodes
    state_next = rw (add-one s, transitions, nodes, place)

    pub transitions_next : (n : ℕ) → n ≡ transitions_before plan s → n + t ≡ transitions_before plan (s + 1)
    unfolding transitions_before total
    transitions_next n h = rw (add-one s, h, transitions_are)

    pub values_next : (v : ℕ) → v ≡ number_at plan (Value s 0) → v + 2 * t ≡ number_at plan (Value (s + 1) 0)
    unfolding number_at
    values_next v h = omega (arith, h, transitions_next (transitions_before plan s) refl)

    pub state_found : (v n : ℕ) → v ≡ number_at plan (Value s 0) → n ≡ clip_nodes_before plan s
        → record { state = s; nodes_at = at + 1; nodes = k; transitions_at = at + 1 + 4 * k + 1; transitions = t; values_at = v; clip_node = n } ≡ state_layout plan s
    unfolding after_nodes node_count kind_at transition_count_at transition_count condition_parameter_at state_layout
    state_found v n h q = rw (transitions, nodes, place, h, q, add-zero (state_at plan s + 1), add-zero (transition_count_at plan s + 1))

-- ---- the layout of a state

module _ (plan : List ℕ) (s : ℕ) {here : StateLayout} (e : here ≡ state_layout plan s) where
  pub same_state : here.state ≡ s
  unfolding state_layout
  same_state = ap (λ h. h.state) e

  pub in_plan : s < state_count plan → InPlan plan here
  in_plan below = record { below = rw same_state below; place = e ∙ ap (state_layout plan) (sym same_state) }

module _ {plan : List ℕ} {here : StateLayout} (inside : InPlan plan here) where
  pub nodes_counted : here.nodes ≡ node_count plan here.state
  unfolding state_layout
  nodes_counted = ap (λ h. h.nodes) inside.place

  pub transitions_counted : here.transitions ≡ transition_count plan here.state
  unfolding state_layout
  transitions_counted = ap (λ h. h.transitions) inside.place

  pub clips_counted : here.clip_node ≡ clip_nodes_before plan here.state
  unfolding state_layout
  clips_counted = ap (λ h. h.clip_node) inside.place

  pub node_found : (i : ℕ) → here.nodes_at + 4 * i ≡ kind_at plan here.state i
  unfolding state_layout
  node_found i = kind_place plan here.state _ i (ap (λ h. h.nodes_at) inside.place)

  pub condition_found : (t : ℕ) → here.transitions_at + 3 * t ≡ condition_parameter_at plan here.state t
  unfolding state_layout
  condition_found t = condition_place plan here.state _ t (ap (λ h. h.transitions_at) inside.place)

  pub value_found : (t : ℕ) → here.values_at + 2 * t ≡ number_at plan (Value here.state t)
  unfolding state_layout number_at
  value_found t = omega (arith, ap (λ h. h.values_at) inside.place)

  pub duration_found : (t : ℕ) → here.values_at + 2 * t + 1 ≡ number_at plan (Duration here.state t)
  unfolding number_at
  duration_found t = omega (arith, value_found t)

  -- what the check has seen of it
  module _ (ok : Passes plan) where
    pub here_ok : check_state plan here.state ≡ accepted
    here_ok = state_ok plan ok here.state inside.below

    pub nodes_few : here.nodes ≤ max_nodes
    nodes_few = rw nodes_counted (few_nodes plan here.state here_ok)

    pub node_words : (i : ℕ) → i < here.nodes → Words plan here.nodes_at 4 i
    node_words i h = record { whole = omega (arith, node_found i, node_there plan here.state here_ok i (omega (arith, nodes_counted))) }

    pub condition_words : (t : ℕ) → t < here.transitions → Words plan here.transitions_at 3 t
    condition_words t h = record { whole = omega (arith, condition_found t, transition_there plan here.state here_ok t (omega (arith, transitions_counted))) }

    pub value_read : (t : ℕ) → t < here.transitions → here.values_at + 2 * t ≤ max_word
    value_read t h = omega (arith, values_small plan ok here.state inside.below, value_found 0, transitions_counted)

-- with these `search` finds that the words of a node or a transition are there
pub ruleset words = (rules, node_words, condition_words, first_there, word_there_lem, place_fits)
