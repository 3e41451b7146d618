-- Laws of a node's check and of the marks, over plain values. Assumes nothing.
use Prim.Native.Nat.{ℕ, zero, suc, ◌+◌, ◌*◌, ◌≤◌, ◌<◌}
use native.Mathlib.Numerals.{add-one}
use native.Mathlib.Omega.{arith}
use native.Mathlib.Decide.{ℕ_discrete, dec_lt}
use mathlib.Core.Path.{◌≡◌, refl, sym, ◌∙◌}
use mathlib.Core.Bool.{Bool, true, false, cond, not, ◌&&◌, ◌||◌, or-false, or-true, or_assoc}
use mathlib.Core.List.{List}
use lib.Dec.{ltb, leb, eqb}
use lib.ListN.{get_or, length, set, length-set, replicate, length-replicate, get_or-replicate}
use lib.Seq.{get_or-set_same, get_or-set_other}
use borrow.Author.Tests.{ltb-true, lt-ltb, le-ltb, eq-eqb, ne_eqb}
use Rattle.model.specs.declared.Refusal.{Refusal}
use Rattle.std.specs.Prelude.{Result, Ok}
use Rattle.model.specs.Answers.{Verdict, accepted, refused, values, ◌then◌, each, require}
use Rattle.model.specs.Plan.{max_nodes, max_clip_nodes, word, kind_at, kind, is_clip, input_a, input_b, node_parameter, clip_node_at}
use Rattle.model.specs.Check.{word_is, used, check_node}
use Rattle.model.proofs.Laws.Answers.{then_left, then_right, then_refused}
use Rattle.model.proofs.Laws.Named.{Named, require_named, then_named, word_named}
use Rattle.model.proofs.Laws.Tests.{word_true, and_left}
use Rattle.model.proofs.Laws.ClipNodes.{first_clip_node, clip_counts, blend_counts_not}
use Rattle.plan.specs.declared.words.Counts.{Counts}
use Rattle.plan.specs.declared.nodes.NodePlace.{NodePlace}
use Rattle.plan.specs.Parts.{CountsOf, check_clip_node, check_blend_node, check_node_at, marks_after, clip_node_after, HasInputs, Begins, Marks}
use Rattle.plan.proofs.Laws.{Passing, passing_none, passing_next}

-- ---- the words after the kind of a clip node

module _ (plan : List ℕ) (node : NodePlace) (counts : Counts) where
  pub clip_full : max_clip_nodes ≤ node.clip_node → refused 2 node.at 0 ≡ check_clip_node plan node counts
  unfolding check_clip_node require ◌then◌
  clip_full h = rw (le-ltb node.clip_node _ h)

  pub clip_words : node.clip_node < max_clip_nodes
      → word_is plan 4 (node.at + 1) (ltb (word plan (node.at + 1)) counts.clips) then word_is plan 4 (node.at + 2) (eqb (word plan (node.at + 2)) 0) then word_is plan 4 (node.at + 3) (eqb (word plan (node.at + 3)) 0)
      ≡ check_clip_node plan node counts
  unfolding check_clip_node require ◌then◌
  clip_words few = rw (lt-ltb node.clip_node _ few)

-- ---- its refusals' numbers

module _ (plan : List ℕ) (node : NodePlace) (counts : Counts) (marks : List Bool) where
  clip_node_named : Named (check_clip_node plan node counts)
  unfolding check_clip_node
  clip_node_named = then_named (then_named (then_named (require_named _ _ _ refl) (word_named _ _ _ _ refl)) (word_named _ _ _ _ refl)) (word_named _ _ _ _ refl)

  blend_node_named : Named (check_blend_node plan node counts marks)
  unfolding check_blend_node
  blend_node_named = then_named (then_named (word_named _ _ _ _ refl) (word_named _ _ _ _ refl)) (word_named _ _ _ _ refl)

  pub node_at_named : Named (check_node_at plan node counts marks)
  unfolding check_node_at
  node_at_named = then_named (word_named _ _ _ _ refl) (go (eqb (word plan node.at) 0))
    where
      go : (is_clip : Bool) → Named (cond is_clip (check_clip_node plan node counts) (check_blend_node plan node counts marks))
      go true = clip_node_named
      go false = blend_node_named

-- ---- all words of a node

module _ (plan : List ℕ) (node : NodePlace) (counts : Counts) (marks : List Bool) where
  abbrev kind_word : Verdict
  kind_word = word_is plan 4 node.at (leb (word plan node.at) 2)

  pub clip_goes : eqb (word plan node.at) 0 ≡ true → kind_word then check_clip_node plan node counts ≡ check_node_at plan node counts marks
  unfolding check_node_at
  clip_goes z = rw z

  pub blend_goes : eqb (word plan node.at) 0 ≡ false → kind_word then check_blend_node plan node counts marks ≡ check_node_at plan node counts marks
  unfolding check_node_at
  blend_goes z = rw z

  -- one that passed has earlier nodes for inputs
  module _ (ok : check_node_at plan node counts marks ≡ accepted) where
    blend_passed : eqb (word plan node.at) 0 ≡ false → check_blend_node plan node counts marks ≡ accepted
    unfolding check_node_at
    blend_passed e = rw e at (then_right _ _ ok)

    input_a_earlier : eqb (word plan node.at) 0 ≡ false → word plan (node.at + 1) < node.i
    unfolding check_blend_node
    input_a_earlier e = ltb-true _ _ (and_left _ _ (word_true _ _ _ _ (then_left _ _ (then_left _ _ (blend_passed e)))))

    input_b_earlier : eqb (word plan node.at) 0 ≡ false → word plan (node.at + 2) < node.i
    unfolding check_blend_node
    input_b_earlier e = ltb-true _ _ (and_left _ _ (and_left _ _ (word_true _ _ _ _ (then_right _ _ (then_left _ _ (blend_passed e))))))

    pub has_inputs : node.i ≤ max_nodes → HasInputs plan node.at
    has_inputs h = record { a = λ e. omega (arith, input_a_earlier e); b = λ e. omega (arith, input_b_earlier e) }

-- ---- node i of state s

after_first : (k r a b p : Verdict) → k then r then a then b then p ≡ k then (r then a then b then p)
unfolding ◌then◌
after_first accepted r a b p = refl
after_first (refused number place rest) r a b p = refl

after_skipped : (k a b p : Verdict) → k then accepted then a then b then p ≡ k then (a then b then p)
unfolding ◌then◌
after_skipped accepted a b p = refl
after_skipped (refused number place rest) a b p = refl

module _ (plan : List ℕ) (s : ℕ) (node : NodePlace) (place : node.at ≡ kind_at plan s node.i) (number : node.clip_node ≡ clip_node_at plan s node.i) (counts : Counts) (count : CountsOf plan counts)
    (few : node.i ≤ max_nodes) (marks : List Bool) (so_far : Marks plan s node.i marks) where
  free : (k : ℕ) → ltb k node.i && not (used plan s node.i k) ≡ ltb k node.i && not (get_or marks k false)
  free k = go (dec_lt k node.i)
    where
      go : Dec (k < node.i) → ltb k node.i && not (used plan s node.i k) ≡ ltb k node.i && not (get_or marks k false)
      go (yes h) = rw (so_far.mark k (omega arith))
      go (no h) = rw (le-ltb k node.i (omega arith))

  clip_same : eqb (word plan (kind_at plan s node.i)) 0 ≡ true → check_node_at plan node counts marks ≡ check_node plan s node.i
  unfolding check_node_at check_clip_node check_node is_clip kind input_a input_b node_parameter
  clip_same e = rw (place, number, count.clips, e) (sym (after_first _ _ _ _ _))

  blend_same : eqb (word plan (kind_at plan s node.i)) 0 ≡ false → check_node_at plan node counts marks ≡ check_node plan s node.i
  unfolding check_node_at check_blend_node check_node is_clip kind input_a input_b node_parameter require
  blend_same e =
      rw (place, count.parameters, e, free (word plan (kind_at plan s node.i + 1)), free (word plan (kind_at plan s node.i + 2)))
      (sym (after_skipped _ _ _ _))

  pub node_same : check_node_at plan node counts marks ≡ check_node plan s node.i
  node_same = go _ refl
    where
      go : (b : Bool) → eqb (word plan (kind_at plan s node.i)) 0 ≡ b → check_node_at plan node counts marks ≡ check_node plan s node.i
      go true e = clip_same e
      go false e = blend_same e

-- ---- marks and clip nodes

set_mark : (marks : List Bool) (a k : ℕ) → k < length marks → get_or (set marks a true) k false ≡ get_or marks k false || eqb a k
set_mark marks a k h = go (ℕ_discrete a k)
  where
    go : Dec (a ≡ k) → get_or (set marks a true) k false ≡ get_or marks k false || eqb a k
    go (yes e) = rw (eq-eqb a k e, e, get_or-set_same marks k true false h, or-true)
    go (no e) = rw (ne_eqb a k e, get_or-set_other marks a k true false (λ q. e (sym q)), or-false)

module _ (plan : List ℕ) (s i at : ℕ) (place : at ≡ kind_at plan s i) where
  module _ (marks : List Bool) (so_far : Marks plan s i marks) (l : length marks ≡ max_nodes + 1) (k : ℕ) (h : k < max_nodes) where
    marks_clip : eqb (word plan (kind_at plan s i)) 0 ≡ true → get_or (marks_after plan at marks) k false ≡ used plan s (suc i) k
    unfolding used marks_after is_clip kind
    marks_clip e = rw (place, e) (so_far.mark k h ∙ sym (or-false (used plan s i k)))

    marks_blend : eqb (word plan (kind_at plan s i)) 0 ≡ false → get_or (marks_after plan at marks) k false ≡ used plan s (suc i) k
    unfolding used marks_after is_clip kind input_a input_b
    marks_blend e =
        let a = word plan (kind_at plan s i + 1) in
        rw (place, e, set_mark (set marks a true) (word plan (kind_at plan s i + 2)) k (rw (length-set marks, l) (omega arith)), set_mark marks a k (rw l (omega arith)), so_far.mark k h)
        (or_assoc (used plan s i k) _ _)

    mark_next : get_or (marks_after plan at marks) k false ≡ used plan s (suc i) k
    mark_next = go _ refl
      where
        go : (b : Bool) → eqb (word plan (kind_at plan s i)) 0 ≡ b → get_or (marks_after plan at marks) k false ≡ used plan s (suc i) k
        go true e = marks_clip e
        go false e = marks_blend e

  clip_node_next : (n : ℕ) → n ≡ clip_node_at plan s i → clip_node_after plan at n ≡ clip_node_at plan s (suc i)
  unfolding clip_node_after is_clip kind
  clip_node_next n h = go _ refl
    where
      go : (b : Bool) → is_clip plan s i ≡ b → clip_node_after plan at n ≡ clip_node_at plan s (suc i)
      go true e = rw (place, h, e) (clip_counts plan s i e)
      go false e = rw (place, h, e) (blend_counts_not plan s i e)

marks_length : (plan : List ℕ) (at : ℕ) (marks : List Bool) → length (marks_after plan at marks) ≡ length marks
unfolding marks_after
marks_length plan at marks = go _ refl
  where
    go : (b : Bool) → eqb (word plan at) 0 ≡ b → length (marks_after plan at marks) ≡ length marks
    go true e = rw e
    go false e = rw (e, length-set (set marks (word plan (at + 1)) true) (word plan (at + 2)) true, length-set marks (word plan (at + 1)) true)

pub clip_node_most : (plan : List ℕ) (at n : ℕ) → clip_node_after plan at n ≤ n + 1
unfolding clip_node_after
clip_node_most plan at n = go _ refl
  where
    go : (b : Bool) → eqb (word plan at) 0 ≡ b → clip_node_after plan at n ≤ n + 1
    go true e = rw e (omega arith)
    go false e = rw e (omega arith)

-- ---- the walk over the nodes of state s, which begins at `at` with clip node m

-- the first i of k nodes pass; these are their marks, and the next clip node is number n
pub record NodesPassed (plan : List ℕ) (s k i : ℕ) (marks : List Bool) (n : ℕ) : Type 0 where
  pub passing : Passing (check_node plan s) k i
  pub sized : length marks ≡ max_nodes + 1
  pub marked : Marks plan s i marks
  pub number : n ≡ clip_node_at plan s i

module _ (plan : List ℕ) (s at m : ℕ) (begins : Begins plan s at m) where
  pub nodes_none : (k : ℕ) → NodesPassed plan s k 0 (replicate (max_nodes + 1) false) m
  unfolding used
  nodes_none k = record { passing = passing_none _ _; sized = length-replicate (max_nodes + 1) false; marked = record { mark = λ k h. get_or-replicate (max_nodes + 1) k false false (omega arith) }; number = begins.clips ∙ first_clip_node plan s }

  node_place : (i : ℕ) → at + 1 + 4 * i ≡ kind_at plan s i
  unfolding kind_at
  node_place i = rw begins.place

  module _ {k i : ℕ} {marks : List Bool} {n : ℕ} (so_far : NodesPassed plan s k i marks n) (more : i < k) (few : k ≤ max_nodes) (counts : Counts) (count : CountsOf plan counts)
      (A : Type 0) (a : Result A Refusal) (this : values a ≡ check_node_at plan (record { i = i; at = at + 1 + 4 * i; clip_node = n }) counts marks) where
    pub node_verdict : values a ≡ check_node plan s i
    node_verdict = this ∙ node_same plan s _ (node_place i) so_far.number counts count (omega arith) marks so_far.marked

    pub node_next : (x : A) → a ≡ Ok x → NodesPassed plan s k (i + 1) (marks_after plan (at + 1 + 4 * i) marks) (clip_node_after plan (at + 1 + 4 * i) n)
    node_next x q =
        record {
          passing = passing_next so_far.passing more x (rw q at node_verdict);
          sized = marks_length plan _ marks ∙ so_far.sized;
          marked = record { mark = λ j h. rw (add-one i) (mark_next plan s i _ (node_place i) marks so_far.marked so_far.sized j h) };
          number = rw (add-one i) (clip_node_next plan s i _ (node_place i) n so_far.number);
        }

pub marks_all : (plan : List ℕ) (s i : ℕ) (marks : List Bool) → Marks plan s i marks → (n : ℕ) → i ≤ n → n ≤ i → Marks plan s n marks
marks_all plan s i marks so_far n h k = let q : n ≡ i = omega arith in rw q so_far

-- ---- the search for a node that is no input

module _ (marks : List Bool) (place : ℕ) where
  pub all_used : (n : ℕ) → ((k : ℕ) → k < n → get_or marks k false ≡ true) → accepted ≡ each n (λ k. require (get_or marks k false) 4 place)
  unfolding each require ◌then◌
  all_used zero all = refl
  all_used (suc n) all = rw (← all_used n (λ k h. all k (omega arith)), all n (omega arith))

  one_more : (v : Verdict) (mark : Bool) → v then refused 4 place 0 ≡ refused 4 place 0 → v then require mark 4 place then refused 4 place 0 ≡ refused 4 place 0
  unfolding require ◌then◌
  one_more accepted true same = refl
  one_more accepted false same = refl
  one_more (refused number at rest) mark same = same

  -- a refusal before is the same
  any_before : (n : ℕ) → each n (λ k. require (get_or marks k false) 4 place) then refused 4 place 0 ≡ refused 4 place 0
  unfolding each ◌then◌
  any_before zero = refl
  any_before (suc n) = one_more _ _ (any_before n)

  pub one_unused : (n k : ℕ) → k < n → get_or marks k false ≡ false → each n (λ k. require (get_or marks k false) 4 place) ≡ refused 4 place 0
  unfolding each require
  one_unused zero k h e = absurd (omega arith)
  one_unused (suc n) k h e = elim (ℕ_discrete k n) [ yes p ↦ rw (rw p at e) (any_before n) | no q ↦ then_refused _ _ 4 place 0 (one_unused n k (omega arith) e) ]
