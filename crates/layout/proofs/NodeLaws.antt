-- What the check has seen of a node and of a transition, told from their words. Assumes nothing.
use Prim.Native.Nat.{ℕ, ◌≤◌, ◌<◌}
use native.Mathlib.Omega.{arith}
use mathlib.Core.Path.{◌≡◌, refl, sym, ap, ◌∙◌}
use mathlib.Core.Logic.{◌⊎◌, inl, inr}
use mathlib.Core.Bool.{Bool, true, false, cond}
use mathlib.Core.List.{List}
use lib.Dec.{eqb}
use borrow.Author.Tests.{ne_eqb}
use native.Mathlib.Decide.{ℕ_discrete}
use Rattle.model.specs.Plan.{max_parameters, max_nodes, clip_count, state_count, node_count, kind, is_clip, is_lerp}
use Rattle.model.proofs.Laws.State.{a_earlier, b_earlier, clip_below, parameter_below, condition_below, target_below}
use Rattle.model.proofs.Laws.Passed.{few_parameters}
use Rattle.layout.specs.declared.StateLayout.{StateLayout}
use Rattle.layout.specs.Kinds.{kind_of}
use Rattle.layout.specs.declared.Kind.{Kind}
use Rattle.layout.specs.declared.Kind.TheVariants as kind
use Rattle.layout.specs.declared.Node.{Node}
use Rattle.layout.specs.declared.Condition.{Condition}
use Rattle.layout.specs.Layout.{Passes, InPlan, node_of, condition_of}
use Rattle.layout.proofs.Laws.{here_ok, nodes_counted, nodes_few, transitions_counted}

-- ---- what a kind tells of its number

clip_number : (k : ℕ) → kind_of k ≡ kind.Clip → eqb k 0 ≡ true
unfolding kind_of
clip_number k h = go (eqb k 0) (eqb k 1) h
  where
    go : (zero one : Bool) → cond zero kind.Clip (cond one kind.Lerp kind.Additive) ≡ kind.Clip → zero ≡ true
    go true one h = refl
    go false true h = absurd cc
    go false false h = absurd cc

other_number : (k : ℕ) → (kind_of k ≡ kind.Clip → ⊥) → eqb k 0 ≡ false
unfolding kind_of
other_number k h = go (eqb k 0) h
  where
    go : (zero : Bool) → (cond zero kind.Clip (cond (eqb k 1) kind.Lerp kind.Additive) ≡ kind.Clip → ⊥) → zero ≡ false
    go true h = absurd (h refl)
    go false h = refl

-- the same of a kind that was made from a word
pub clip_word : (k : ℕ) (x : Kind) → x ≡ kind_of k → x ≡ kind.Clip → eqb k 0 ≡ true
clip_word k x e h = clip_number k (sym e ∙ h)

pub blend_word : (k : ℕ) (x : Kind) → x ≡ kind_of k → (x ≡ kind.Lerp) ⊎ (x ≡ kind.Additive) → eqb k 0 ≡ false
blend_word k x e (inl h) = other_number k (λ q. let z : kind.Clip ≡ kind.Lerp = sym q ∙ sym e ∙ h in absurd cc)
blend_word k x e (inr h) = other_number k (λ q. let z : kind.Clip ≡ kind.Additive = sym q ∙ sym e ∙ h in absurd cc)

lerp_number : (k : ℕ) → kind_of k ≡ kind.Lerp → eqb k 1 ≡ true
unfolding kind_of
lerp_number k h = go (eqb k 0) (eqb k 1) h
  where
    go : (zero one : Bool) → cond zero kind.Clip (cond one kind.Lerp kind.Additive) ≡ kind.Lerp → one ≡ true
    go zero true h = refl
    go true false h = absurd cc
    go false false h = absurd cc

-- 1 is not 0
unlike_lerp : (k : ℕ) → (kind_of k ≡ kind.Lerp → ⊥) → eqb k 1 ≡ false
unfolding kind_of
unlike_lerp k h = go (ℕ_discrete k 1)
  where
    go : Dec (k ≡ 1) → eqb k 1 ≡ false
    go (yes e) = absurd (h (rw e refl))
    go (no q) = ne_eqb _ _ q

-- ---- what a node's words tell

module _ (plan : List ℕ) (s i : ℕ) {n : Node} (e : n ≡ node_of plan s i) where
  -- a clip, and only that, has the kind of one; a lerp likewise
  pub is_clip_lem : n.kind ≡ kind.Clip → is_clip plan s i ≡ true
  unfolding node_of is_clip
  is_clip_lem h = clip_number (kind plan s i) (sym (ap (λ n. n.kind) e) ∙ h)

  pub no_clip : (n.kind ≡ kind.Clip → ⊥) → is_clip plan s i ≡ false
  unfolding node_of is_clip
  no_clip h = other_number (kind plan s i) (λ q. h (ap (λ n. n.kind) e ∙ q))

  pub is_lerp_lem : n.kind ≡ kind.Lerp → is_lerp plan s i ≡ true
  unfolding node_of is_lerp
  is_lerp_lem h = lerp_number (kind plan s i) (sym (ap (λ n. n.kind) e) ∙ h)

  pub no_lerp : (n.kind ≡ kind.Lerp → ⊥) → is_lerp plan s i ≡ false
  unfolding node_of is_lerp
  no_lerp h = unlike_lerp (kind plan s i) (λ q. h (ap (λ n. n.kind) e ∙ q))

-- ---- node i of a state

module _ {plan : List ℕ} {here : StateLayout} {i : ℕ} (ok : Passes plan) (inside : InPlan plan here) (below : i < here.nodes) where
  pub node_counted : i < node_count plan here.state
  node_counted = rw (nodes_counted inside) at below

  pub node_small : i ≤ max_nodes
  node_small = omega (arith, nodes_few inside ok)

-- its words, as `State::node` gives them
pub record NodeRead (plan : List ℕ) (here : StateLayout) (i : ℕ) (words : Node) : Type 0 where
  pub passes : Passes plan
  pub state : InPlan plan here
  pub below : i < here.nodes
  pub found : words ≡ node_of plan here.state i

module _ {plan : List ℕ} {here : StateLayout} {i : ℕ} {words : Node} (r : NodeRead plan here i words) where
  pub clip_inside : is_clip plan here.state i ≡ true → words.a < clip_count plan
  unfolding node_of
  clip_inside e = rw r.found (clip_below plan here.state (here_ok r.state r.passes) i (node_counted r.passes r.state r.below) e)

  module _ (e : is_clip plan here.state i ≡ false) where
    pub inputs_before : (words.a < i) × (words.b < i)
    unfolding node_of
    inputs_before =
        let ok = here_ok r.state r.passes in
        let h = node_counted r.passes r.state r.below in
        rw r.found (a_earlier plan here.state ok i h e, b_earlier plan here.state ok i h e)

    pub inputs_inside : (words.a < here.nodes) × (words.b < here.nodes)
    inputs_inside = omega (arith, inputs_before, r.below)

    pub parameter_small : words.parameter < max_parameters
    unfolding node_of
    parameter_small =
        rw r.found (omega (arith, parameter_below plan here.state (here_ok r.state r.passes) i (node_counted r.passes r.state r.below) e, few_parameters plan r.passes.numbers r.passes.passed))

-- ---- transition t of a state

module _ {plan : List ℕ} {here : StateLayout} {t : ℕ} {n : Condition} (ok : Passes plan) (inside : InPlan plan here) (below : t < here.transitions) (e : n ≡ condition_of plan here.state t) where
  -- its parameter is one of the player's
  pub parameter_there : n.parameter < max_parameters
  unfolding condition_of
  parameter_there =
      rw e
      (omega (arith, condition_below plan here.state (here_ok inside ok) t (omega (arith, transitions_counted inside)), few_parameters plan ok.numbers ok.passed))

  pub target_there : n.target < state_count plan
  unfolding condition_of
  target_there = rw e (target_below plan here.state (here_ok inside ok) t (omega (arith, transitions_counted inside)))
