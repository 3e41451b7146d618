-- Verdicts of the check's parts that model does not name. Definitions only.
use Rattle.std.specs.Prelude.{ℕ, ◌+◌, ◌<◌, ◌≡◌, Bool, true, false, cond, not, ◌&&◌, List, get_or, length, set, ltb, leb, eqb, Result, IfOk}
use Rattle.model.specs.declared.Refusal.{Refusal}
use Rattle.model.specs.Answers.{Verdict, accepted, values, OwnReason, ◌then◌, each, require}
use Rattle.model.specs.Plan.{max_nodes, max_clip_nodes, word, joint_count, clip_count, parameter_count, state_count, state_at, transitions_before, clip_nodes_before, plan_end, numbers_length}
use Rattle.model.specs.Check.{word_is, used, check_header, check_parent, check_clip, check_node, check_state}
use Rattle.layout.specs.declared.Layout.{Layout}
use Rattle.layout.specs.Layout.{layout_of}
use Rattle.plan.specs.declared.words.Counts.{Counts}
use Rattle.plan.specs.declared.nodes.NodePlace.{NodePlace}
use Rattle.plan.specs.declared.states.States.{States}

-- these are the plan's counts
pub record CountsOf (plan : List ℕ) (counts : Counts) : Type 0 where
  pub clips : counts.clips ≡ clip_count plan
  pub parameters : counts.parameters ≡ parameter_count plan
  pub states : counts.states ≡ state_count plan

-- ---- a node and a transition, by what the walk over the words knows of them

-- the words after the kind of a clip node
unfoldable pub check_clip_node : List ℕ → NodePlace → Counts → Verdict
check_clip_node plan node counts =
    require (ltb node.clip_node max_clip_nodes) 2 node.at then
    word_is plan 4 (node.at + 1) (ltb (word plan (node.at + 1)) counts.clips) then
    word_is plan 4 (node.at + 2) (eqb (word plan (node.at + 2)) 0) then
    word_is plan 4 (node.at + 3) (eqb (word plan (node.at + 3)) 0)

-- marked nodes are inputs already: node i may have node k for one
abbrev pub is_free : List Bool → ℕ → ℕ → Bool
is_free marks i k = ltb k i && not (get_or marks k false)

-- the words after the kind of any other node
unfoldable pub check_blend_node : List ℕ → NodePlace → Counts → List Bool → Verdict
check_blend_node plan node counts marks =
    let a = word plan (node.at + 1) in
    let b = word plan (node.at + 2) in
    word_is plan 4 (node.at + 1) (is_free marks node.i a) then
    word_is plan 4 (node.at + 2) (is_free marks node.i b && not (eqb a b)) then
    word_is plan 4 (node.at + 3) (ltb (word plan (node.at + 3)) counts.parameters)

unfoldable pub check_node_at : List ℕ → NodePlace → Counts → List Bool → Verdict
check_node_at plan node counts marks =
    word_is plan 4 node.at (leb (word plan node.at) 2) then
    cond (eqb (word plan node.at) 0) (check_clip_node plan node counts) (check_blend_node plan node counts marks)

-- what the node whose kind stands at a place makes of the marks and of the next clip node's number
unfoldable pub marks_after : List ℕ → ℕ → List Bool → List Bool
marks_after plan at marks = cond (eqb (word plan at) 0) marks (set (set marks (word plan (at + 1)) true) (word plan (at + 2)) true)

unfoldable pub clip_node_after : List ℕ → ℕ → ℕ → ℕ
clip_node_after plan at n = cond (eqb (word plan at) 0) (n + 1) n

-- unless it is a clip, its inputs can be marked
pub record HasInputs (plan : List ℕ) (at : ℕ) : Type 0 where
  pub a : eqb (word plan at) 0 ≡ false → word plan (at + 1) < max_nodes
  pub b : eqb (word plan at) 0 ≡ false → word plan (at + 2) < max_nodes

unfoldable pub check_transition_at : List ℕ → Counts → ℕ → Verdict
check_transition_at plan counts at =
    word_is plan 5 at (ltb (word plan at) counts.parameters) then
    word_is plan 5 (at + 1) (leb (word plan (at + 1)) 5) then
    word_is plan 5 (at + 2) (ltb (word plan (at + 2)) counts.states)

-- ---- states

-- state s begins at the word `at`, and its first clip node is number n
pub record Begins (plan : List ℕ) (s at n : ℕ) : Type 0 where
  pub place : at ≡ state_at plan s
  pub clips : n ≡ clip_nodes_before plan s

-- marks that say which nodes the first i nodes of state s have for inputs
pub record Marks (plan : List ℕ) (s i : ℕ) (marks : List Bool) : Type 0 where
  pub mark : (k : ℕ) → k < max_nodes → get_or marks k false ≡ used plan s i k

-- the first k nodes of the state that begins so, with their marks where all pass. Whatever begins there, a refusal has a reason of its own
pub record NodesChecked (plan : List ℕ) (at n k : ℕ) (marks : List Bool) (r : Result Unit Refusal) : Type 0 where
  pub answer : (s : ℕ) → Begins plan s at n → values r ≡ each k (check_node plan s)
  pub marked : (s : ℕ) → Begins plan s at n → IfOk r (λ _. Marks plan s k marks)
  pub named : OwnReason r

-- the state that begins so
pub record StateChecked (plan : List ℕ) (at n : ℕ) (r : Result Unit Refusal) : Type 0 where
  pub answer : (s : ℕ) → Begins plan s at n → values r ≡ check_state plan s

-- the first n states, and, where all pass, the word after them and how many transitions they have
pub record StatesChecked (plan : List ℕ) (n : ℕ) (r : Result States Refusal) : Type 0 where
  pub answer : values r ≡ each n (check_state plan)
  pub end : IfOk r (λ states. states.end ≡ state_at plan n)
  pub transitions : IfOk r (λ states. states.transitions ≡ transitions_before plan n)

-- ---- the whole check

-- refusals 1 to 5 and 14: all words that the plan says it has
unfoldable pub check_words : List ℕ → Verdict
check_words plan = check_header plan then each (joint_count plan) (check_parent plan) then each (clip_count plan) (check_clip plan) then each (state_count plan) (check_state plan)

pub record WordsChecked (plan : List ℕ) (r : Result States Refusal) : Type 0 where
  pub answer : values r ≡ check_words plan
  pub end : IfOk r (λ states. states.end ≡ plan_end plan)
  pub transitions : IfOk r (λ states. states.transitions ≡ transitions_before plan (state_count plan))

-- a plan whose words pass
abbrev pub Worded : List ℕ → Type 0
Worded plan = check_words plan ≡ accepted

-- refusals 6 and 7, for such a plan
pub record LengthsChecked (plan : List ℕ) (n : ℕ) (r : Result Layout Refusal) : Type 0 where
  pub answer : values r ≡ require (leb (length plan) (plan_end plan)) 6 (plan_end plan) then require (eqb n (numbers_length plan)) 7 0
  pub layout : IfOk r (λ layout. layout ≡ layout_of plan)
