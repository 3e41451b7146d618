-- What the words of a node tell of synchronising it, the filling of slots, and how large they get. Assumes nothing.
use Prim.Native.Nat.{ℕ, zero, suc, ◌+◌, ◌≤◌, ◌<◌}
use native.Mathlib.Omega.{arith}
use mathlib.Core.Path.{◌≡◌, refl, sym, ◌∙◌}
use mathlib.Core.Bool.{Bool, true, false, not, ◌&&◌}
use mathlib.Core.List.{List}
use lib.Dec.{eqb}
use lib.ListN.{length, get_or, set}
use lib.Seq.{get_or-set_same, get_or-set_other}
use lib.Ieee.{Float}
use borrow.Author.Count.{below_more}
use Rattle.model.specs.Answers.{accepted}
use Rattle.model.specs.Plan.{max_clip_nodes, sample_count, is_empty, state_count, node_count, is_clip, total, clip_nodes_before, clip_node_at}
use Rattle.model.specs.Check.{check_state}
use Rattle.model.proofs.Laws.Touched.{touched_blends, touched_a, touched_b}
use Rattle.model.proofs.Laws.ClipNodes.{first_clip_node, clip_counts, blend_counts_not}
use Rattle.model.proofs.Laws.State.{few_clip_nodes}
use Rattle.model.proofs.Laws.Passed.{state_passed}
use Rattle.model.specs.Tree.{parameter, target_length, plays_samples, is_touched, node_length, node_target, synchronized_rate, rate_set, input_synchronized, synchronize_node}
use Rattle.layout.specs.declared.StateLayout.{StateLayout}
use Rattle.layout.specs.declared.Kind.TheVariants as kind
use Rattle.layout.specs.declared.Node.{Node}
use Rattle.layout.specs.Layout.{Passes, InPlan, node_of}
use Rattle.layout.proofs.Laws.{here_ok, nodes_counted}
use Rattle.layout.proofs.NodeLaws.{is_clip_lem, no_clip, is_lerp_lem, no_lerp}

module _ (plan : List ℕ) (s i : ℕ) {n : Node} (e : n ≡ node_of plan s i) where
  pub other_untouched : (n.kind ≡ kind.Lerp → ⊥) → false ≡ is_touched plan s i
  unfolding is_touched
  other_untouched h = sym (rw (no_lerp plan s i e h))

  pub lerp_touched : n.kind ≡ kind.Lerp → is_touched plan s i ≡ plays_samples plan s n.a && plays_samples plan s n.b
  unfolding node_of is_touched
  lerp_touched h = rw (is_lerp_lem plan s i e h, e)

  pub lerp_no_clip : n.kind ≡ kind.Lerp → is_clip plan s i ≡ false
  lerp_no_clip h = no_clip plan s i e (λ k. absurd cc)

  pub touched_inputs : is_touched plan s i ≡ true → (is_clip plan s i ≡ false) × (is_clip plan s n.a ≡ true) × (is_clip plan s n.b ≡ true)
  unfolding node_of
  touched_inputs t = (touched_blends plan s i t, rw e (touched_a plan s i t), rw e (touched_b plan s i t))

  pub plays_nothing : (n.kind ≡ kind.Clip → ⊥) → false ≡ plays_samples plan s i
  unfolding plays_samples
  plays_nothing h = sym (rw (no_clip plan s i e h))

  pub plays_told : n.kind ≡ kind.Clip → {samples : ℕ} → samples ≡ sample_count plan n.a → not (eqb samples 0) ≡ plays_samples plan s i
  unfolding node_of plays_samples is_empty
  plays_told h es = sym (rw (is_clip_lem plan s i e h, es, e))

  -- the two inputs one after the other
  pub both_synchronized : (numbers parameters : List Float) (time la lb target : Float) (ka kb : ℕ) (x y z : List Float)
      → is_touched plan s i ≡ true
      → la ≡ node_length plan numbers s n.a
      → lb ≡ node_length plan numbers s n.b
      → target ≡ target_length (parameter parameters n.parameter) la lb
      → ka ≡ clip_node_at plan s n.a
      → kb ≡ clip_node_at plan s n.b
      → y ≡ rate_set time ka (synchronized_rate la target) x
      → z ≡ rate_set time kb (synchronized_rate lb target) y
      → z ≡ synchronize_node plan numbers parameters time s i x
  unfolding node_of node_target input_synchronized synchronize_node
  both_synchronized numbers parameters time la lb target ka kb x y z t ea eb et ca cb ey ez = rw (t, ez, ey, ca, cb, et, ea, eb, e)

-- one slot more is filled
pub filled_more : (slots : List ℕ) (i next : ℕ) (f : ℕ → ℕ) → i < length slots → ((k : ℕ) → k < i → get_or slots k 0 ≡ f k) → next ≡ f i → (k : ℕ) → k < i + 1 → get_or (set slots i next) k 0 ≡ f k
filled_more slots i next f l done here =
    below_more (λ (k : ℕ). get_or (set slots i next) k 0 ≡ f k) i (λ k h. get_or-set_other slots i k next 0 (λ e. omega arith) ∙ done k h)
    (get_or-set_same slots i next 0 l ∙ here)

-- ---- clip nodes are few: each has an instance, and so the next has at most the number after the last

module _ (plan : List ℕ) where
  few_among : (s : ℕ) → check_state plan s ≡ accepted → clip_nodes_before plan s ≤ max_clip_nodes → (i : ℕ) → i ≤ node_count plan s → clip_node_at plan s i ≤ max_clip_nodes
  few_among s ok before zero h = rw (← first_clip_node plan s) before
  few_among s ok before (suc i) h = next (is_clip plan s i) refl (few_among s ok before i (omega arith))
    where
      next : (t : Bool) → is_clip plan s i ≡ t → clip_node_at plan s i ≤ max_clip_nodes → clip_node_at plan s (suc i) ≤ max_clip_nodes
      next true e l = omega (arith, clip_counts plan s i e, few_clip_nodes plan s ok i h e)
      next false e l = omega (arith, blend_counts_not plan s i e)

  few_before : Passes plan → (s : ℕ) → s ≤ state_count plan → clip_nodes_before plan s ≤ max_clip_nodes
  unfolding clip_nodes_before total clip_node_at
  few_before ok zero h = omega arith
  few_before ok (suc s) h = few_among s (state_passed plan ok.numbers ok.passed s h) (few_before ok s (omega arith)) (node_count plan s) (omega arith)

pub few_next : {plan : List ℕ} {here : StateLayout} → Passes plan → InPlan plan here → (i : ℕ) → i ≤ here.nodes → clip_node_at plan here.state i ≤ max_clip_nodes
few_next {plan} {here} ok inside i h =
    few_among plan here.state (here_ok inside ok) (few_before plan ok here.state (omega (arith, inside.below))) i (omega (arith, nodes_counted inside))
