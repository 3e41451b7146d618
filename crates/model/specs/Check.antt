-- Document 01, "Start": refusals 1 to 7, and 14 (document 02, Card 1), as a row of checks in the order of the words. Definitions only.
use Rattle.std.specs.Prelude.{ℕ, zero, suc, ◌-◌, Bool, false, cond, not, ◌&&◌, ◌||◌, List, length, leb, ltb, eqb}
use Rattle.model.specs.Answers.{Verdict, ◌then◌, each, require}
use Rattle.model.specs.Plan.{max_joints, max_clips, max_parameters, max_states, max_samples, max_nodes, max_transitions, max_clip_nodes, joint_count_at, clip_count_at, parameter_count_at, state_count_at, initial_state_at, parent_at, joint_count, clip_count, parameter_count, state_count, initial_state, parent, is_root, sample_count_at, sample_count, ending_at, ending, state_at, node_count, kind_at, input_a_at, input_b_at, node_parameter_at, kind, is_clip, input_a, input_b, node_parameter, transition_count_at, transition_count, condition_parameter_at, operator_at, target_state_at, condition_parameter, operator, target_state, plan_end, clip_node_at, numbers_length}

-- refusal 1 where the plan has no such word, else the number given where the word fails its test
unfoldable pub word_is : List ℕ → ℕ → ℕ → Bool → Verdict
word_is plan number place ok = require (ltb place (length plan)) 1 (length plan) then require ok number place

unfoldable pub within : ℕ → ℕ → ℕ → Bool
within low x high = leb low x && leb x high

-- refusal 2 in the header
unfoldable pub check_header : List ℕ → Verdict
check_header plan =
    word_is plan 2 joint_count_at (within 1 (joint_count plan) max_joints) then word_is plan 2 clip_count_at (within 1 (clip_count plan) max_clips) then
    word_is plan 2 parameter_count_at (leb (parameter_count plan) max_parameters) then word_is plan 2 state_count_at (within 1 (state_count plan) max_states) then
    word_is plan 2 initial_state_at (ltb (initial_state plan) (state_count plan))

-- refusal 3
unfoldable pub check_parent : List ℕ → ℕ → Verdict
check_parent plan j = word_is plan 3 (parent_at j) (is_root plan j || ltb (parent plan j) j)

-- a clip: refusal 2 for its N (Card 2: 'N may be 0'), then 14 'for another ending word'
unfoldable pub check_clip : List ℕ → ℕ → Verdict
check_clip plan c =
    word_is plan 2 (sample_count_at plan c) (within 0 (sample_count plan c) max_samples) then
    word_is plan 14 (ending_at plan c) (within 0 (ending plan c) 1)

-- whether one of the first i nodes has node k for an input
unfoldable pub used : List ℕ → ℕ → ℕ → ℕ → Bool
used plan s zero k = false
used plan s (suc i) k = used plan s i k || (not (is_clip plan s i) && (eqb (input_a plan s i) k || eqb (input_b plan s i) k))

-- refusal 4 for a node's words, and 2 for one clip node too many, which is known as soon as its kind is
unfoldable pub check_node : List ℕ → ℕ → ℕ → Verdict
check_node plan s i =
    let a = input_a plan s i in
    let b = input_b plan s i in
    let p = node_parameter plan s i in
    word_is plan 4 (kind_at plan s i) (leb (kind plan s i) 2) then
    require (not (is_clip plan s i) || ltb (clip_node_at plan s i) max_clip_nodes) 2 (kind_at plan s i) then
    word_is plan 4 (input_a_at plan s i) (cond (is_clip plan s i) (ltb a (clip_count plan)) (ltb a i && not (used plan s i a))) then
    word_is plan 4 (input_b_at plan s i) (cond (is_clip plan s i) (eqb b 0) (ltb b i && not (used plan s i b) && not (eqb a b))) then
    word_is plan 4 (node_parameter_at plan s i) (cond (is_clip plan s i) (eqb p 0) (ltb p (parameter_count plan)))

-- refusal 5
unfoldable pub check_transition : List ℕ → ℕ → ℕ → Verdict
check_transition plan s t =
    word_is plan 5 (condition_parameter_at plan s t) (ltb (condition_parameter plan s t) (parameter_count plan)) then
    word_is plan 5 (operator_at plan s t) (leb (operator plan s t) 5) then
    word_is plan 5 (target_state_at plan s t) (ltb (target_state plan s t) (state_count plan))

-- a state: K, its nodes, that no node but the root is left over, T, its transitions
unfoldable pub check_state : List ℕ → ℕ → Verdict
check_state plan s =
    word_is plan 2 (state_at plan s) (within 1 (node_count plan s) max_nodes) then
    each (node_count plan s) (check_node plan s) then
    each (node_count plan s - 1) (λ k. require (used plan s (node_count plan s) k) 4 (state_at plan s)) then
    word_is plan 2 (transition_count_at plan s) (leb (transition_count plan s) max_transitions) then
    each (transition_count plan s) (check_transition plan s)

-- the whole check, with refusals 6 and 7 at its end
unfoldable pub check : List ℕ → ℕ → Verdict
check plan numbers_given =
    check_header plan then
    each (joint_count plan) (check_parent plan) then
    each (clip_count plan) (check_clip plan) then
    each (state_count plan) (check_state plan) then
    require (leb (length plan) (plan_end plan)) 6 (plan_end plan) then
    require (eqb numbers_given (numbers_length plan)) 7 0
