-- What a question comes to, over plain values: the promise of each refusal, and of the count. Assumes nothing.
use Prim.Native.Nat.{ℕ, ◌≤◌, ◌<◌}
use native.Mathlib.Omega.{arith}
use mathlib.Core.Path.{◌≡◌, refl, sym, ap, ◌∙◌}
use mathlib.Core.Bool.{Bool, true, false, not, ◌||◌}
use mathlib.Core.List.{List}
use lib.ListN.{length}
use lib.Dec.{ltb}
use lib.Ieee.{Float}
use borrow.Author.Tests.{lt-ltb, le-ltb, eq-eqb, ne_eqb}
use Rattle.std.specs.Prelude.{Result, Ok, Err}
use Rattle.std.specs.Result.{IsErrAnd}
use Rattle.model.specs.declared.ClipInstance.{ClipInstance}
use Rattle.model.specs.declared.LoopCount.{LoopCount}
use Rattle.model.specs.declared.Player.{Player}
use Rattle.model.specs.declared.Refusal.{Refusal}
use Rattle.model.specs.Answers.{accepted, refused, number_of, values, ◌then◌, require}
use Rattle.model.specs.Check.{check}
use Rattle.model.specs.Numbers.{floor_index}
use Rattle.model.specs.Plan.{state_count, node_count, input_a, clip_node_at, sample_count, is_empty, is_stopping}
use Rattle.model.specs.Clips.{local_time, instance_at, position_of, sampled_position}
use Rattle.model.specs.Controller.{has_states, play_verdict}
use Rattle.model.specs.Loops.{is_clip_node, is_looping, loops_verdict, played_index, whole_loops, loop_rest}
use Rattle.model.specs.Promises.{LoopsCounted}
use Rattle.model.proofs.Repeats.{equation, bound}
use Rattle.layout.specs.declared.Layout.{Layout}
use Rattle.layout.specs.declared.StateLayout.{StateLayout}
use Rattle.layout.specs.declared.Kind.TheVariants as kind
use Rattle.layout.specs.declared.Node.{Node}
use Rattle.layout.specs.Layout.{layout_of, state_layout, node_of}
use Rattle.layout.proofs.Laws.{states_found, same_state, in_plan, nodes_counted}
use Rattle.layout.proofs.NodeLaws.{is_clip_lem, no_clip}
use Rattle.blend_tree.specs.declared.sampling.Clip.{Clip}
use Rattle.blend_tree.specs.Sampling.{clip_of, position_at}
use Rattle.loops.specs.Counting.{IndexCounted, CountedAt}

-- ---- a verdict, and what is answered by it

module _ (plan : List ℕ) (numbers : List Float) (p : Player) (s n : ℕ) (time : Float) where
  pub refused_counted : (r : Result LoopCount Refusal) (e : Refusal) → r ≡ Err e → refused (number_of e.reason) e.place 0 ≡ loops_verdict plan numbers p s n → LoopsCounted plan numbers p s n time r
  unfolding values
  refused_counted r e is told = rw is (record { answer = told; loops = tt; rest = tt; equation = tt; bound = tt })

  pub accepted_counted : loops_verdict plan numbers p s n ≡ accepted → {samples index : ℕ} → samples ≡ sample_count plan (input_a plan s n) → index ≡ played_index plan numbers p s n time
      → {c : LoopCount} → IndexCounted samples index c → LoopsCounted plan numbers p s n time (Ok c)
  unfolding values whole_loops loop_rest
  accepted_counted v {samples} {index} es ei {c} h =
      let l : c.loops ≡ whole_loops plan numbers p s n time = h.loops ∙ rw (es, ei) in
      let k : c.rest ≡ loop_rest plan numbers p s n time = h.rest ∙ rw (es, ei) in
      record {
        answer = sym v;
        loops = l;
        rest = k;
        equation = rw (l, k) (equation plan numbers p s n time v);
        bound = rw k (bound plan numbers p s n time v);
      }

  -- ---- refusals 1 to 9

  pub check_handed : (r : Result LoopCount Refusal) (e : Refusal) → IsErrAnd r (λ y. y ≡ e) → (A : Type 0) → values {A = A} (Err e) ≡ check plan (length numbers) → LoopsCounted plan numbers p s n time r
  unfolding values loops_verdict ◌then◌
  check_handed (Ok c) e exit A told = absurd exit
  check_handed (Err y) e exit A told = refused_counted (Err y) y refl (rw (← told, exit))

  module _ (l : Layout) (passed : check plan (length numbers) ≡ accepted) (found : l ≡ layout_of plan) {has : Bool} (told : has ≡ has_states l.states p.state p.transition) where
    pub player_refused : has ≡ false → (r : Result LoopCount Refusal) (e : Refusal) → r ≡ Err e → refused (number_of e.reason) e.place 0 ≡ refused 9 0 0 → LoopsCounted plan numbers p s n time r
    unfolding loops_verdict ◌then◌ require
    player_refused f r e is nine = refused_counted r e is (nine ∙ rw (passed, ← states_found plan found, ← told, f))

pub player_passes : (plan : List ℕ) (numbers : List Float) (p : Player) (l : Layout) → check plan (length numbers) ≡ accepted → l ≡ layout_of plan → {has : Bool} → has ≡ has_states l.states p.state p.transition
    → has ≡ true → play_verdict plan numbers p ≡ accepted
unfolding ◌then◌ require
player_passes plan numbers p l passed found told t = rw (passed, ← states_found plan found, ← told, t)

-- ---- refusals 16 and 17, and the count, of any player with these instances

module _ {plan : List ℕ} {numbers : List Float} (instances : List Float) {s n : ℕ} (time : Float) where
  pub no_clip_node : is_clip_node plan s n ≡ false → (e : Refusal) → refused (number_of e.reason) e.place 0 ≡ refused 16 0 0 → CountedAt plan numbers instances s n time (Err e)
  unfolding loops_verdict ◌then◌ require
  no_clip_node f e h = record { count = λ p same ok. refused_counted plan numbers p s n time (Err e) e refl (h ∙ rw (ok, f)) }

  module _ (node : is_clip_node plan s n ≡ true) where
    pub not_looping : is_looping plan (input_a plan s n) ≡ false → (e : Refusal) → refused (number_of e.reason) e.place 0 ≡ refused 17 0 0 → CountedAt plan numbers instances s n time (Err e)
    unfolding loops_verdict ◌then◌ require
    not_looping f e h = record { count = λ p same ok. refused_counted plan numbers p s n time (Err e) e refl (h ∙ rw (ok, node, f)) }

    pub node_counted : is_looping plan (input_a plan s n) ≡ true → {samples index : ℕ} → samples ≡ sample_count plan (input_a plan s n)
        → index ≡ floor_index (position_of plan numbers (input_a plan s n) (local_time (instance_at instances (clip_node_at plan s n)) time))
        → {c : LoopCount} → IndexCounted samples index c → CountedAt plan numbers instances s n time (Ok c)
    unfolding loops_verdict ◌then◌ require played_index
    node_counted t es ei h = record { count = λ p same ok. accepted_counted plan numbers p s n time (rw (ok, node, t)) es (rw same ei) h }

-- ---- the node, by its state's layout and its words

pub no_state : (plan : List ℕ) {l : Layout} → l ≡ layout_of plan → (s n : ℕ) → l.states ≤ s → is_clip_node plan s n ≡ false
no_state plan e s n h = rw (le-ltb s (state_count plan) (omega (arith, states_found plan e)))

module _ (plan : List ℕ) (s n : ℕ) (below : s < state_count plan) {here : StateLayout} (there : here ≡ state_layout plan s) where
  state : ltb s (state_count plan) ≡ true
  state = lt-ltb s (state_count plan) below

  nodes : here.nodes ≡ node_count plan s
  nodes = nodes_counted (in_plan plan s there below) ∙ ap (node_count plan) (same_state plan s there)

  pub no_node : here.nodes ≤ n → is_clip_node plan s n ≡ false
  no_node h = rw (state, le-ltb n (node_count plan s) (omega (arith, nodes)))

  module _ (inside : n < here.nodes) {words : Node} (read : words ≡ node_of plan here.state n) where
    node : ltb n (node_count plan s) ≡ true
    node = lt-ltb n (node_count plan s) (omega (arith, nodes))

    found : words ≡ node_of plan s n
    found = read ∙ ap (λ (u : ℕ). node_of plan u n) (same_state plan s there)

    pub no_clip_there : (words.kind ≡ kind.Clip → ⊥) → is_clip_node plan s n ≡ false
    no_clip_there h = rw (state, node, no_clip plan s n found h)

    pub clip_there : words.kind ≡ kind.Clip → is_clip_node plan s n ≡ true
    clip_there h = rw (state, node, is_clip_lem plan s n found h)

    pub clip_named : words.a ≡ input_a plan s n
    unfolding node_of
    clip_named = rw found

-- ---- its clip

module _ (plan : List ℕ) (numbers : List Float) {a c : ℕ} (e : a ≡ c) {clip : Clip} (read : clip ≡ clip_of plan numbers a) where
  is : clip ≡ clip_of plan numbers c
  is = read ∙ ap (clip_of plan numbers) e

  pub samples_counted : clip.samples ≡ sample_count plan c
  unfolding clip_of
  samples_counted = rw is

  pub empty_not_looping : clip.samples ≡ 0 → is_looping plan c ≡ false
  unfolding is_empty
  empty_not_looping h = rw (eq-eqb (sample_count plan c) 0 (sym samples_counted ∙ h))

  pub stopping_not_looping : clip.stops ≡ true → is_looping plan c ≡ false
  unfolding clip_of
  stopping_not_looping h = or_true (is_empty plan c) (is_stopping plan c) (sym (ap (λ (k : Clip). k.stops) is) ∙ h)
    where
      or_true : (x y : Bool) → y ≡ true → not (x || y) ≡ false
      or_true true y f = refl
      or_true false y f = rw f

  module _ (some : clip.samples ≡ 0 → ⊥) (goes_on : clip.stops ≡ false) where
    pub looping : is_looping plan c ≡ true
    unfolding clip_of is_empty
    looping = rw (ne_eqb (sample_count plan c) 0 (λ z. some (samples_counted ∙ z)), sym (ap (λ (k : Clip). k.stops) is) ∙ goes_on)

    -- the evaluator's position, which a looping clip is sampled at
    pub position_is : {x : Float} (instance : ClipInstance) (time : Float) → x ≡ position_at clip instance time → x ≡ position_of plan numbers c (local_time instance time)
    unfolding clip_of sampled_position
    position_is instance time ex = ex ∙ rw (goes_on, is)

    -- so its index is what the instance that was handed in gives
    pub index_is : (instances : List Float) (s n : ℕ) {here : StateLayout} → here ≡ state_layout plan s → {k : ℕ} → k ≡ clip_node_at plan here.state n
        → {instance : ClipInstance} → instance ≡ instance_at instances k → (time : Float) {x : Float} → x ≡ position_at clip instance time → {index : ℕ} → index ≡ floor_index x
        → index ≡ floor_index (position_of plan numbers c (local_time (instance_at instances (clip_node_at plan s n)) time))
    index_is instances s n there ek {instance} ei time ex e = e ∙ ap floor_index (position_is instance time ex) ∙ rw (ei, ek, same_state plan s there)
