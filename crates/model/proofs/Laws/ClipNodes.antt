-- Clip nodes are numbered in a row. From `clip_node_at` one can tell the state, and it is below the count of all.
use Rattle.std.specs.Prelude.{ℕ, suc, ◌+◌, ◌<◌, ◌≡◌, true, false, List}
use native.Mathlib.Omega.{arith}
use Rattle.std.proofs.Math.Bool.{cond}
use Rattle.model.specs.Plan.{node_count, is_clip, total, clip_nodes_among, clip_nodes_before, clip_node_at}
use Rattle.model.proofs.Laws.Totals.{total_below, same_row}

module _ (plan : List ℕ) (s : ℕ) where
  -- a state's count begins where that of the states before it ends
  pub first_clip_node : clip_nodes_before plan s ≡ clip_node_at plan s 0
  unfolding clip_node_at clip_nodes_among total
  first_clip_node = omega arith

  pub clip_counts : (i : ℕ) → is_clip plan s i ≡ true → clip_node_at plan s i + 1 ≡ clip_node_at plan s (suc i)
  unfolding clip_node_at clip_nodes_among total
  clip_counts i e = rw e (omega arith)

  pub blend_counts_not : (i : ℕ) → is_clip plan s i ≡ false → clip_node_at plan s i ≡ clip_node_at plan s (suc i)
  unfolding clip_node_at clip_nodes_among total
  blend_counts_not i e = rw e (omega arith)

module _ (plan : List ℕ) where
  -- within a state
  among : (s i : ℕ) → i < node_count plan s → is_clip plan s i ≡ true → clip_nodes_among plan s i < clip_nodes_among plan s (node_count plan s)
  unfolding clip_nodes_among
  among s i h e =
      let one : 0 < cond (is_clip plan s i) 1 0 = rw e (omega arith) in
      omega (arith, total_below (λ k. cond (is_clip plan s k) 1 0) (node_count plan s) i 0 h one)

  pub same_state : (s i u k : ℕ) → i < node_count plan s → is_clip plan s i ≡ true → k < node_count plan u → is_clip plan u k ≡ true → clip_node_at plan s i ≡ clip_node_at plan u k → s ≡ u
  unfolding clip_node_at clip_nodes_before
  same_state s i u k hi ei hk ek e = same_row (λ s. clip_nodes_among plan s (node_count plan s)) s (clip_nodes_among plan s i) u (clip_nodes_among plan u k) (among s i hi ei) (among u k hk ek) e

  -- over the first n states: so each clip node of an accepted plan has its instance
  pub clip_node_below : (s i n : ℕ) → s < n → i < node_count plan s → is_clip plan s i ≡ true → clip_node_at plan s i < clip_nodes_before plan n
  unfolding clip_node_at clip_nodes_before
  clip_node_below s i n h hi e = total_below (λ s. clip_nodes_among plan s (node_count plan s)) n s (clip_nodes_among plan s i) h (among s i hi e)
