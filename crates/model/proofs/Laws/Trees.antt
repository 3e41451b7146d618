-- A state's nodes are a tree: all but the root are the input of one other node, and a node is a clip or has two inputs.
-- So of K nodes (K + 1) / 2 are clips.
use Prim.Native.Nat.{ℕ, zero, suc, ◌+◌, ◌*◌, ◌-◌, ◌/◌, ◌≤◌, ◌<◌}
use Rattle.std.proofs.Common.{arith, ap, ◌∙◌}
use Rattle.std.proofs.Math.Nat.{mul-div_cancel_left}
use Rattle.std.specs.Prelude.{◌≡◌, Bool, ◌&&◌, ◌||◌, List}
use Rattle.std.proofs.Math.Path.{refl, sym}
use Rattle.std.proofs.Math.Bool.{true, false, cond, not}
use Rattle.std.proofs.Math.Dec.{eqb}
use borrow.Author.Tests.{eqb-true, eqb-false, ne_eqb}
use Rattle.model.specs.Answers.{accepted}
use Rattle.model.specs.Plan.{node_count, is_clip, input_a, input_b, total, clip_nodes_among}
use Rattle.model.specs.Check.{used, check_state}
use Rattle.model.proofs.Laws.State.{a_earlier, b_earlier, a_unused, b_unused, inputs_differ, all_used, some_nodes}
use Rattle.model.proofs.Laws.Totals.{total_even, total_same, total_sum, total_one}

-- of three tests of which no two hold
apart : (u x y : Bool) → (x ≡ true → u ≡ false) → (y ≡ true → u ≡ false) → (x ≡ true → y ≡ false) → cond (u || (x || y)) 1 0 ≡ cond u 1 0 + (cond x 1 0 + cond y 1 0)
apart true true y ux uy xy = cc (ux refl)
apart true false true ux uy xy = cc (uy refl)
apart true false false ux uy xy = refl
apart false true true ux uy xy = cc (xy refl)
apart false true false ux uy xy = refl
apart false false true ux uy xy = refl
apart false false false ux uy xy = refl

or_none : (u : Bool) → u || false ≡ u
or_none true = refl
or_none false = refl

module _ (plan : List ℕ) (s : ℕ) (passed : check_state plan s ≡ accepted) where
  -- how many of the first n nodes are inputs of the first i
  inputs_among : ℕ → ℕ → ℕ
  inputs_among i n = total (λ k. cond (used plan s i k) 1 0) n

  -- a node that blends has two inputs, which none before it has
  both_count : (i k : ℕ) → i < node_count plan s → is_clip plan s i ≡ false
      → cond (used plan s (suc i) k) 1 0 ≡ cond (used plan s i k) 1 0 + (cond (eqb (input_a plan s i) k) 1 0 + cond (eqb (input_b plan s i) k) 1 0)
  unfolding used
  both_count i k h e =
      let a = input_a plan s i in
      let b = input_b plan s i in
      rw e
      (apart (used plan s i k) (eqb a k) (eqb b k) (λ t. rw (eqb-true a k t) at (a_unused plan s passed i h e))
      (λ t. rw (eqb-true b k t) at (b_unused plan s passed i h e))
      (λ t. ne_eqb b k (λ q. eqb-false a b (inputs_differ plan s passed i h e) (eqb-true a k t ∙ sym q))))

  two_more : (i : ℕ) → i < node_count plan s → is_clip plan s i ≡ false → inputs_among (suc i) (node_count plan s) ≡ inputs_among i (node_count plan s) + 2
  unfolding inputs_among
  two_more i h e =
      let n = node_count plan s in
      let u : ℕ → ℕ = λ k. cond (used plan s i k) 1 0 in
      let x : ℕ → ℕ = λ k. cond (eqb (input_a plan s i) k) 1 0 in
      let y : ℕ → ℕ = λ k. cond (eqb (input_b plan s i) k) 1 0 in
      total_same _ _ n (λ k l. both_count i k h e) ∙
      omega (arith, total_sum u (λ k. x k + y k) n, total_sum x y n, total_one (input_a plan s i) n (omega (arith, a_earlier plan s passed i h e)), total_one (input_b plan s i) n (omega (arith, b_earlier plan s passed i h e)))

  none_more : (i : ℕ) → is_clip plan s i ≡ true → inputs_among (suc i) (node_count plan s) ≡ inputs_among i (node_count plan s)
  unfolding inputs_among used
  none_more i e = total_same _ _ (node_count plan s) (λ k l. rw (e, or_none (used plan s i k)))

  none_yet : inputs_among 0 (node_count plan s) ≡ 0
  unfolding inputs_among used
  none_yet = omega (arith, total_even 0 (node_count plan s))

  -- i nodes have two inputs each but for the clips
  half_to : (i : ℕ) → i ≤ node_count plan s → inputs_among i (node_count plan s) + 2 * clip_nodes_among plan s i ≡ 2 * i
  unfolding clip_nodes_among total
  half_to zero h = omega (arith, none_yet)
  half_to (suc i) h = go (is_clip plan s i) refl (half_to i (omega arith))
    where
      go : (clip : Bool) → is_clip plan s i ≡ clip → inputs_among i (node_count plan s) + 2 * clip_nodes_among plan s i ≡ 2 * i
          → inputs_among (suc i) (node_count plan s) + 2 * clip_nodes_among plan s (suc i) ≡ 2 * suc i
      go true e before = rw e (omega (arith, none_more i e))
      go false e before = rw e (omega (arith, two_more i (omega arith) e))

  -- inputs are earlier, so nothing has the last node for an input
  late_unused : (i k : ℕ) → i ≤ node_count plan s → i ≤ suc k → used plan s i k ≡ false
  unfolding used
  late_unused zero k h l = refl
  late_unused (suc i) k h l = rw (late_unused i k (omega arith) (omega arith)) (go (is_clip plan s i) refl)
    where
      go : (clip : Bool) → is_clip plan s i ≡ clip → not clip && (eqb (input_a plan s i) k || eqb (input_b plan s i) k) ≡ false
      go true e = refl
      go false e =
          rw (ne_eqb (input_a plan s i) k (omega (arith, a_earlier plan s passed i (omega arith) e)), ne_eqb (input_b plan s i) k (omega (arith, b_earlier plan s passed i (omega arith) e)))

  all_but_root : (m : ℕ) → node_count plan s ≡ suc m → inputs_among (node_count plan s) (suc m) ≡ m
  unfolding inputs_among total
  all_but_root m e =
      rw (total_same (λ k. cond (used plan s (node_count plan s) k) 1 0) (λ k. 1) m (λ k l. rw (all_used plan s passed k (omega arith))), total_even 1 m, late_unused (node_count plan s) m (omega arith) (omega arith))
      (omega arith)

  pub clip_nodes_half : 2 * clip_nodes_among plan s (node_count plan s) ≡ node_count plan s + 1
  clip_nodes_half =
      let e : node_count plan s ≡ suc (node_count plan s - 1) = omega (arith, some_nodes plan s passed) in
      omega (arith, half_to (node_count plan s) (omega arith), ap (inputs_among (node_count plan s)) e, all_but_root (node_count plan s - 1) e)

  -- as code has it
  pub clip_nodes_divided : clip_nodes_among plan s (node_count plan s) ≡ (node_count plan s + 1) / 2
  clip_nodes_divided = sym (rw (← clip_nodes_half) (mul-div_cancel_left (clip_nodes_among plan s (node_count plan s)) (omega arith)))
