-- The longest plan that the reader's limits allow.
use Prim.Native.Nat.{ℕ, zero, suc, ◌+◌, ◌*◌, ◌≤◌}
use native.Mathlib.Omega.{arith}
use Rattle.std.specs.Prelude.{List, length}
use Rattle.model.specs.Plan.{max_nodes, max_transitions, max_plan, clip_count, state_count, sample_count_at, after_nodes, after_transitions, state_at, node_count, transition_count_at, transition_count, plan_end}
use Rattle.round_trip.specs.Counted.{CountedPlan}

module _ (plan : List ℕ) (n : ℕ) (ok : CountedPlan plan n) where
  -- K, T, and the most nodes and transitions a state
  states_most : (s : ℕ) → s ≤ state_count plan → state_at plan s ≤ sample_count_at plan (clip_count plan) + (2 + 4 * max_nodes + 3 * max_transitions) * s
  unfolding state_at after_transitions after_nodes node_count transition_count transition_count_at
  states_most zero h = omega arith
  states_most (suc s) h = omega (arith, states_most s (omega arith), ok.nodes s h, ok.transitions s h)

  pub plan_most : length plan ≤ max_plan
  unfolding plan_end sample_count_at
  plan_most = omega (arith, ok.plan_length, states_most (state_count plan) (omega arith), ok.joints, ok.clips, ok.states)
