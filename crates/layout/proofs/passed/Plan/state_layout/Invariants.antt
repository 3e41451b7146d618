-- `layout::passed::Plan::state_layout` meets its contract. Invariant: the places and the count are those of state s. The check has seen that the words are there,
-- and its limits keep the sums small. Assumes nothing.
use mathlib.Core.Path.{◌≡◌}
use Rattle.model.specs.Plan.{state_at, clip_nodes_before, number_at, Value}
use Rattle.layout.proofs.passed.Plan.state_layout.Given as goal

abbrev pub invariant-loop-s : goal.invariant-loop-s
invariant-loop-s l =
    (l.at ≡ state_at l.self.words.now l.s) × (l.values_at ≡ number_at l.self.words.now (Value l.s 0)) × (l.clip_node ≡ clip_nodes_before l.self.words.now l.s)
