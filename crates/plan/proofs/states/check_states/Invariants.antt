-- `plan::states::check_states` meets its contract. Invariant: the first s states pass, and the place, the clip nodes and the transitions are those after them. Assumes nothing.
use Prim.Native.Nat.{◌+◌, ◌*◌, ◌≤◌}
use mathlib.Core.Path.{◌≡◌}
use Rattle.model.specs.Plan.{max_nodes, max_transitions, max_states_at, state_at, clip_nodes_before, transitions_before}
use Rattle.model.specs.Check.{check_state}
use Rattle.plan.proofs.Laws.{Passing}
use Rattle.plan.proofs.states.check_states.Given as goal

abbrev pub invariant-loop-s : goal.invariant-loop-s
invariant-loop-s l =
    Passing (check_state l.plan) l.states l.s × (l.at ≡ state_at l.plan l.s) × (l.clip_node ≡ clip_nodes_before l.plan l.s) × (l.transitions ≡ transitions_before l.plan l.s) × (l.at ≤ max_states_at + (2 + 4 * max_nodes + 3 * max_transitions) * l.s) × (l.clip_node ≤ 16 * l.s) × (l.transitions ≤ max_transitions * l.s)
