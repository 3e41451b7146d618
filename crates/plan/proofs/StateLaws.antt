-- Laws of a state's check, over plain values. Assumes nothing.
use Prim.Native.Nat.{ℕ, zero, suc, ◌+◌, ◌*◌, ◌-◌, ◌≤◌, ◌<◌}
use native.Mathlib.Omega.{arith}
use mathlib.Core.Path.{◌≡◌, refl, sym, ◌∙◌}
use mathlib.Core.Bool.{Bool, false}
use mathlib.Core.List.{List}
use lib.Dec.{leb}
use lib.ListN.{get_or, length, take}
use Rattle.std.proofs.lemmas.List.{get_or-take, length-take-le}
use borrow.Author.Tests.{leb-true}
use Rattle.model.specs.declared.Refusal.{Refusal}
use Rattle.std.specs.Prelude.{Result, Ok, Err}
use Rattle.model.specs.Answers.{Verdict, accepted, values, ◌then◌, each, require}
use Rattle.model.specs.Plan.{max_nodes, max_transitions, word, state_at, node_count, after_nodes, transition_count_at, transition_count, condition_parameter_at, condition_parameter, operator, target_state}
use Rattle.model.specs.Check.{word_is, within, used, check_node, check_transition, check_state}
use Rattle.model.proofs.Laws.Answers.{then_accepted}
use Rattle.model.proofs.Laws.Tests.{word_true, within_low, within_high}
use Rattle.model.proofs.Laws.State.{few_nodes, few_transitions}
use Rattle.layout.proofs.Laws.{nodes_are, transitions_are, condition_place}
use Rattle.plan.specs.declared.words.Counts.{Counts}
use Rattle.plan.specs.Parts.{CountsOf, check_transition_at, Marks}
use Rattle.model.proofs.Laws.Exits.{more, passed}

each_same : (f g : ℕ → Verdict) (n : ℕ) → ((k : ℕ) → k < n → f k ≡ g k) → each n f ≡ each n g
unfolding each
each_same f g zero same = refl
each_same f g (suc n) same = rw (each_same f g n (λ k h. same k (omega arith)), same n (omega arith))

-- the front of the marks is looked through
front_same : (marks : List Bool) (n at : ℕ) → n ≤ length marks → each (length (take n marks)) (λ j. require (get_or (take n marks) j false) 4 at) ≡ each n (λ j. require (get_or marks j false) 4 at)
front_same marks n at inside = rw (length-take-le n marks inside) (each_same _ _ n (λ j h. rw (get_or-take n marks j false h)))

-- ---- transitions of state s

module _ (plan : List ℕ) (s : ℕ) (counts : Counts) (count : CountsOf plan counts) where
  transition_same : (t at : ℕ) → at ≡ condition_parameter_at plan s t → check_transition_at plan counts at ≡ check_transition plan s t
  unfolding check_transition_at check_transition condition_parameter operator target_state
  transition_same t at e = rw (e, count.parameters, count.states)

  -- the first n, whose words begin at `from`
  transitions_same : (n from : ℕ) → from ≡ condition_parameter_at plan s 0 → each n (λ t. check_transition_at plan counts (from + 3 * t)) ≡ each n (check_transition plan s)
  transitions_same n from e = each_same _ _ n (λ t h. transition_same t _ (condition_place plan s from t e))

-- ---- the parts of state s, whose K stands at `at` and is k

abbrev pub count_of : List ℕ → ℕ → Verdict
count_of plan at = word_is plan 2 at (within 1 (word plan at) max_nodes)

abbrev pub tree_of : List ℕ → ℕ → ℕ → ℕ → Verdict
tree_of plan s at k = count_of plan at then each k (check_node plan s) then each (k - 1) (λ j. require (used plan s k j) 4 at)

parts : (plan : List ℕ) (s at k : ℕ) → at ≡ state_at plan s → k ≡ word plan at
    → check_state plan s ≡ tree_of plan s at k then word_is plan 2 (at + 1 + 4 * k) (leb (word plan (at + 1 + 4 * k)) max_transitions) then each (word plan (at + 1 + 4 * k)) (check_transition plan s)
unfolding check_state node_count transition_count_at transition_count after_nodes
parts plan s at k place count = rw (count, place)

-- at the exits below, a refusal of a part is that of the state
pub count_stops : (plan : List ℕ) (s at : ℕ) → at ≡ state_at plan s → (A : Type 0) (e : Refusal) → values {A = A} (Err e) ≡ count_of plan at → values {A = A} (Err e) ≡ check_state plan s
count_stops plan s at place A e told = more A e _ _ (more A e _ _ (more A e _ _ (more A e _ _ told))) ∙ sym (parts plan s at _ place refl)

-- K passed
pub record Counted (plan : List ℕ) (at k : ℕ) : Type 0 where
  pub count : k ≡ word plan at
  pub passes : count_of plan at ≡ accepted

pub is_counted : {A : Type 0} (plan : List ℕ) (at k : ℕ) → k ≡ word plan at → (x : A) → values {A = A} (Ok x) ≡ count_of plan at → Counted plan at k
is_counted plan at k count x told = record { count = count; passes = passed x _ told }

module _ {plan : List ℕ} {at k : ℕ} (so_far : Counted plan at k) where
  pub nodes_between : (1 ≤ k) × (k ≤ max_nodes)
  nodes_between = let ok = word_true _ _ _ _ so_far.passes in rw so_far.count (within_low _ _ _ ok, within_high _ _ _ ok)

  -- so there are marks for all nodes but the last
  pub front_inside : (marks : List Bool) → length marks ≡ max_nodes + 1 → k - 1 ≤ length marks
  front_inside marks sized = omega (arith, nodes_between, sized)

  module _ (s : ℕ) (place : at ≡ state_at plan s) where
    state_parts : check_state plan s ≡ tree_of plan s at k then word_is plan 2 (at + 1 + 4 * k) (leb (word plan (at + 1 + 4 * k)) max_transitions) then each (word plan (at + 1 + 4 * k)) (check_transition plan s)
    state_parts = parts plan s at k place so_far.count

    pub nodes_stop : (A : Type 0) (e : Refusal) → values {A = A} (Err e) ≡ each k (check_node plan s) → values {A = A} (Err e) ≡ check_state plan s
    nodes_stop A e told = more A e _ _ (more A e _ _ (more A e _ _ (told ∙ sym (then_accepted _ _ so_far.passes)))) ∙ sym state_parts

    -- then the nodes are looked for among the marks
    module _ (marks : List Bool) {N : Type 0} (x : N) (nodes : values {A = N} (Ok x) ≡ each k (check_node plan s)) (mark : Marks plan s k marks) (sized : length marks ≡ max_nodes + 1) {A : Type 0} (a : Result A Refusal)
        (told : values a ≡ each (length (take (k - 1) marks)) (λ j. require (get_or (take (k - 1) marks) j false) 4 at)) where
      three : values a ≡ tree_of plan s at k
      three =
          told ∙ front_same marks (k - 1) at (front_inside marks sized) ∙ each_same _ _ (k - 1) (λ j h. rw (mark.mark j (omega (arith, nodes_between)))) ∙ sym (then_accepted _ _ (then_accepted _ _ so_far.passes ∙ passed x _ nodes))

      pub inputs_stop : (e : Refusal) → a ≡ Err e → values a ≡ check_state plan s
      inputs_stop e q = rw q (more A e _ _ (more A e _ _ (rw q at three))) ∙ sym state_parts

      pub is_tree : (y : A) → a ≡ Ok y → tree_of plan s at k ≡ accepted
      is_tree y q = passed y _ (rw q at three)

    -- and where they are a tree, T is next
    module _ (tree : tree_of plan s at k ≡ accepted) {A : Type 0} (a : Result A Refusal) (told : values a ≡ word_is plan 2 (at + 1 + 4 * k) (leb (word plan (at + 1 + 4 * k)) max_transitions)) where
      pub transition_count_stops : (e : Refusal) → a ≡ Err e → values a ≡ check_state plan s
      transition_count_stops e q = rw q (more A e _ _ (rw q at (told ∙ sym (then_accepted _ _ tree)))) ∙ sym state_parts

      first_transition_place : at + 1 + 4 * k + 1 ≡ condition_parameter_at plan s 0
      unfolding condition_parameter_at transition_count_at after_nodes
      first_transition_place = rw (so_far.count, place) (omega arith)

      pub transitions_end : (x : A) → a ≡ Ok x → (n : ℕ) → n ≡ word plan (at + 1 + 4 * k) → (counts : Counts) → CountsOf plan counts
          → {B : Type 0} (b : Result B Refusal) → values b ≡ each n (λ t. check_transition_at plan counts (at + 1 + 4 * k + 1 + 3 * t)) → values b ≡ check_state plan s
      transitions_end x q n is counts count b all =
          (rw is at (all ∙ transitions_same plan s counts count n _ first_transition_place)) ∙ sym (then_accepted _ _ (then_accepted _ _ tree ∙ passed x _ (rw q at told))) ∙ sym state_parts

pub transitions_few : {A : Type 0} (plan : List ℕ) (at n : ℕ) → n ≡ word plan at → (x : A) → values {A = A} (Ok x) ≡ word_is plan 2 at (leb (word plan at) max_transitions) → n ≤ max_transitions
transitions_few plan at n is x told = rw is (leb-true _ _ (word_true _ _ _ _ (passed x _ told)))

-- ---- all states

-- k nodes and t transitions of one that passed are few
pub few : (plan : List ℕ) (s at k t : ℕ) → at ≡ state_at plan s → k ≡ word plan at → t ≡ word plan (at + 1 + 4 * k) → check_state plan s ≡ accepted → (k ≤ max_nodes) × (t ≤ max_transitions)
few plan s at k t place nodes transitions ok =
    rw (nodes_are plan s at k place nodes, transitions_are plan s at k place nodes t transitions) (few_nodes plan s ok, few_transitions plan s ok)

-- the last state's end is that of all
pub ends : (f : ℕ → ℕ) (x i n : ℕ) → x ≡ f i → i ≤ n → n ≤ i → x ≡ f n
ends f x i n e h k = let q : n ≡ i = omega arith in rw q e
