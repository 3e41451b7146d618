-- Steps of marking, over plain values. Assumes nothing.
use Prim.Native.Nat.{ℕ, ◌+◌, ◌≤◌, ◌<◌}
use native.Mathlib.Omega.{arith}
use native.Mathlib.Numerals.{add-one}
use native.Mathlib.Decide.{ℕ_discrete}
use mathlib.Core.Path.{◌≡◌, refl, sym, ap, ◌∙◌}
use mathlib.Core.Bool.{Bool, true, false, not, ◌&&◌, ◌||◌}
use mathlib.Core.List.{List}
use Rattle.std.proofs.Math.Bool.{or-false, or-true, or_assoc}
use lib.ListN.{length, get_or, set, length-set}
use Rattle.std.specs.Prelude.{Some, None}
use Rattle.std.specs.List.{position, position_or_len, zip}
use Rattle.std.proofs.lemmas.Slice.Zip.{length-zip, get_or-zip}
use Rattle.std.proofs.lemmas.List.Quantifiers.{position-Some}
use Rattle.std.proofs.lemmas.List.Sums.{fails_before_first}
use lib.Seq.{get_or-set_same, get_or-set_other}
use lib.Dec.{eqb, ltb}
use borrow.Author.Tests.{eq-eqb, ne_eqb, ltb-false}
use Rattle.model.specs.declared.Uses.{Uses}
use Rattle.model.specs.Plan.{max_states, max_parameters, max_clips, node_count, is_clip, transition_count, condition_parameter, target_state}
use Rattle.model.specs.Uses.{is_marked, any_below, leads_to, node_reads, blends_by, asks_for, reads, node_plays, plays}
use Rattle.model.proofs.Laws.Passed.{few_clips, few_states}
use Rattle.model.proofs.Laws.Marks.{unlike}
use Rattle.model.proofs.Laws.Tests.{and_left, and_right, not_true}
use Rattle.layout.specs.declared.StateLayout.{StateLayout}
use Rattle.layout.specs.declared.Kind.TheVariants as kind
use Rattle.layout.specs.declared.Node.{Node}
use Rattle.layout.specs.declared.Condition.{Condition}
use Rattle.layout.specs.Layout.{Passes, InPlan, state_layout, node_of, condition_of}
use Rattle.layout.proofs.Laws.{same_state, nodes_counted, transitions_counted}
use Rattle.layout.proofs.NodeLaws.{NodeRead, is_clip_lem, no_clip, clip_inside, parameter_small, parameter_there, target_there}
use Rattle.uses.specs.Marking.{Marked, AllMarked, none, first_open}

-- ---- marks that are added

module _ {f g : ℕ → Bool} {l m : List Bool} where
  -- by a test that is the same
  pub marked_as : ((k : ℕ) → f k ≡ g k) → Marked f l m → Marked g l m
  marked_as same x = record { long = x.long; mark = λ k. x.mark k ∙ ap (λ (t : Bool). is_marked l k || t) (same k) }

  -- one behind the other
  pub marked_then : {n : List Bool} → Marked f l m → Marked g m n → Marked (λ k. f k || g k) l n
  marked_then x y =
      record { long = y.long ∙ x.long; mark = λ k. y.mark k ∙ ap (λ (t : Bool). t || g k) (x.mark k) ∙ or_assoc (is_marked l k) (f k) (g k) }

pub marked_none : {f : ℕ → Bool} (l : List Bool) → ((k : ℕ) → f k ≡ false) → Marked f l l
marked_none l none = record { long = refl; mark = λ k. sym (or-false (is_marked l k)) ∙ ap (λ (t : Bool). is_marked l k || t) (sym (none k)) }

pub marked_one : (l : List Bool) (a : ℕ) → a < length l → Marked (λ k. eqb a k) l (set l a true)
marked_one l a h = record { long = length-set l a true; mark = λ k. go k (ℕ_discrete k a) }
  where
    go : (k : ℕ) → Dec (k ≡ a) → is_marked (set l a true) k ≡ is_marked l k || eqb a k
    go k (yes e) = rw (e, eq-eqb a a refl) (get_or-set_same l a true false h ∙ sym (or-true (is_marked l a)))
    go k (no e) = rw (ne_eqb a k (λ q. e (sym q))) (get_or-set_other l a k true false e ∙ sym (or-false (is_marked l k)))

-- one more number below which some passes
pub marked_next : (f : ℕ → ℕ → Bool) (i : ℕ) {l m n : List Bool} → Marked (λ k. any_below i (λ j. f j k)) l m → Marked (f i) m n → Marked (λ k. any_below (i + 1) (λ j. f j k)) l n
unfolding any_below
marked_next f i x y = rw (add-one i) (marked_then x y)

-- ---- a node

module _ {plan : List ℕ} {here : StateLayout} {i : ℕ} {words : Node} (n : NodeRead plan here i words) (marks : Uses) where
  module _ (is : words.kind ≡ kind.Clip) where
    clip : is_clip plan here.state i ≡ true
    clip = is_clip_lem plan here.state i n.found is

    pub clip_small : words.a < max_clips
    clip_small = omega (arith, clip_inside n clip, few_clips plan n.passes.numbers n.passes.passed)

    pub clip_marked : max_clips ≤ length marks.clips
        → AllMarked none (node_reads plan here.state i) (node_plays plan here.state i) marks (record { states = marks.states; parameters = marks.parameters; clips = set marks.clips words.a true })
    unfolding node_of
    clip_marked room = record {
      states = marked_none marks.states (λ k. refl);
      parameters = marked_none marks.parameters (λ k. rw clip refl);
      clips = marked_as (λ k. rw (clip, n.found) refl) (marked_one marks.clips words.a (omega (arith, clip_small)));
    }

  module _ (other : words.kind ≡ kind.Clip → ⊥) where
    blend : is_clip plan here.state i ≡ false
    blend = no_clip plan here.state i n.found other

    pub blend_small : words.parameter < max_parameters
    blend_small = parameter_small n blend

    pub blend_marked : max_parameters ≤ length marks.parameters
        → AllMarked none (node_reads plan here.state i) (node_plays plan here.state i) marks (record { states = marks.states; parameters = set marks.parameters words.parameter true; clips = marks.clips })
    unfolding node_of
    blend_marked room = record {
      states = marked_none marks.states (λ k. refl);
      parameters = marked_as (λ k. rw (blend, n.found) refl) (marked_one marks.parameters words.parameter (omega (arith, blend_small)));
      clips = marked_none marks.clips (λ k. rw blend refl);
    }

-- ---- a transition

module _ {plan : List ℕ} {here : StateLayout} {t : ℕ} {n : Condition} (ok : Passes plan) (inside : InPlan plan here) (below : t < here.transitions) (e : n ≡ condition_of plan here.state t) where
  pub target_small : n.target < max_states
  target_small = omega (arith, target_there ok inside below e, few_states plan ok.numbers ok.passed)

  pub transition_marked : (marks : Uses) → max_states ≤ length marks.states → max_parameters ≤ length marks.parameters
      → AllMarked (eqb (target_state plan here.state t)) (eqb (condition_parameter plan here.state t)) none marks
      (record { states = set marks.states n.target true; parameters = set marks.parameters n.parameter true; clips = marks.clips })
  unfolding condition_of
  transition_marked marks states parameters = record {
    states = marked_as (λ k. rw e refl) (marked_one marks.states n.target (omega (arith, target_small)));
    parameters = marked_as (λ k. rw e refl) (marked_one marks.parameters n.parameter (omega (arith, parameter_there ok inside below e)));
    clips = marked_none marks.clips (λ k. refl);
  }

-- ---- all of a state. Invariants: the marks of the first i nodes are added, and those of the first i transitions

module _ (plan : List ℕ) (s i : ℕ) (before after : Uses) where
  abbrev pub NodesMarked : Type 0
  NodesMarked = AllMarked none (λ n. any_below i (λ j. node_reads plan s j n)) (λ c. any_below i (λ j. node_plays plan s j c)) before after

  abbrev pub TransitionsMarked : Type 0
  TransitionsMarked = AllMarked (λ u. any_below i (λ j. eqb (target_state plan s j) u)) (λ n. any_below i (λ j. eqb (condition_parameter plan s j) n)) none before after

module _ (plan : List ℕ) (s : ℕ) (a : Uses) where
  pub nodes_start : NodesMarked plan s 0 a a
  unfolding any_below
  nodes_start = record { states = marked_none _ (λ k. refl); parameters = marked_none _ (λ k. refl); clips = marked_none _ (λ k. refl) }

  pub transitions_start : TransitionsMarked plan s 0 a a
  unfolding any_below
  transitions_start = record { states = marked_none _ (λ k. refl); parameters = marked_none _ (λ k. refl); clips = marked_none _ (λ k. refl) }

module _ (plan : List ℕ) (s : ℕ) {a b c : Uses} where
  pub nodes_next : (i : ℕ) → NodesMarked plan s i a b → AllMarked none (node_reads plan s i) (node_plays plan s i) b c → NodesMarked plan s (i + 1) a c
  nodes_next i x y =
      record { states = marked_then x.states y.states; parameters = marked_next (node_reads plan s) i x.parameters y.parameters; clips = marked_next (node_plays plan s) i x.clips y.clips }

  pub transitions_next : (i : ℕ) → TransitionsMarked plan s i a b → AllMarked (eqb (target_state plan s i)) (eqb (condition_parameter plan s i)) none b c → TransitionsMarked plan s (i + 1) a c
  transitions_next i x y =
      record { states = marked_next (λ j. eqb (target_state plan s j)) i x.states y.states; parameters = marked_next (λ j. eqb (condition_parameter plan s j)) i x.parameters y.parameters; clips = marked_then x.clips y.clips }

module _ {plan : List ℕ} {here : StateLayout} (inside : InPlan plan here) {i : ℕ} {a b : Uses} where
  pub nodes_done : i ≡ here.nodes → NodesMarked plan here.state i a b → AllMarked none (blends_by plan here.state) (plays plan here.state) a b
  unfolding blends_by plays
  nodes_done e x = let n : i ≡ node_count plan here.state = e ∙ nodes_counted inside in rw n at x

  pub transitions_done : i ≡ here.transitions → TransitionsMarked plan here.state i a b → AllMarked (leads_to plan here.state) (asks_for plan here.state) none a b
  unfolding leads_to asks_for
  transitions_done e x = let n : i ≡ transition_count plan here.state = e ∙ transitions_counted inside in rw n at x

-- its nodes, then its transitions
pub state_followed : (plan : List ℕ) (s : ℕ) {here : StateLayout} → here ≡ state_layout plan s → {a b c : Uses}
    → AllMarked none (blends_by plan here.state) (plays plan here.state) a b → AllMarked (leads_to plan here.state) (asks_for plan here.state) none b c
    → AllMarked (leads_to plan s) (reads plan s) (plays plan s) a c
unfolding reads
state_followed plan s e nodes transitions =
    let q = same_state plan s e in
    record {
      states = rw q at (marked_then nodes.states transitions.states);
      parameters = rw q at (marked_then nodes.parameters transitions.parameters);
      clips = rw q at (marked_as (λ k. or-false _) (marked_then nodes.clips transitions.clips));
    }

-- ---- a search

abbrev Opens : Bool × Bool → Bool
Opens s = s.0 && not s.1

-- where no place is given, none passes
past : {X : Type 0} (p : X → Bool) (xs : List X) → None ≡ position p xs → length xs ≤ position_or_len p xs
past p xs e = go (ltb (position_or_len p xs) (length xs)) refl
  where
    go : (t : Bool) → ltb (position_or_len p xs) (length xs) ≡ t → length xs ≤ position_or_len p xs
    go true q = let f : None ≡ Some (position_or_len p xs) = e ∙ rw q refl in absurd cc
    go false q = ltb-false _ _ q

module _ (states followed : List Bool) (same : length states ≡ length followed) (s : ℕ) where
  pair : s < length states → get_or (zip states followed) s (false, false) ≡ (is_marked states s, is_marked followed s)
  pair h = get_or-zip states followed s (false, false) h (omega arith)

  long : length (zip states followed) ≡ length states
  long = omega (arith, length-zip states followed)

  -- a state that is found is marked and not followed
  pub open_found : Some s ≡ first_open states followed → (is_marked states s ≡ true) × (is_marked followed s ≡ false)
  open_found e =
      let f = position-Some Opens (zip states followed) s (false, false) (sym e) in
      let opened = rw (pair (omega (arith, f.0, long))) at f.1 in
      (and_left _ _ opened, not_true _ (and_right _ _ opened))

  -- where none is found, each that is marked is followed
  pub none_open : None ≡ first_open states followed → s < length states → is_marked states s ≡ true → is_marked followed s ≡ true
  none_open e h marked =
      let closed = fails_before_first Opens (zip states followed) s (false, false) (omega (arith, past Opens (zip states followed) e, long)) in
      go (is_marked followed s) refl (rw (pair h, marked) at closed)
    where
      go : (t : Bool) → is_marked followed s ≡ t → not (is_marked followed s) ≡ false → is_marked followed s ≡ true
      go true q c = q
      go false q c = absurd (unlike (rw q refl) c)
