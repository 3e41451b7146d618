-- `blend_tree::synchronize::clip_node` meets its contract. Invariant: `next` is the clip node that comes at k. Assumes nothing.
use mathlib.Core.Path.{◌≡◌}
use Rattle.model.specs.Plan.{clip_node_at}
use Rattle.blend_tree.proofs.synchronize.clip_node.Given as goal

abbrev pub invariant-loop-k : goal.invariant-loop-k
invariant-loop-k l = l.next ≡ clip_node_at l.state.plan.words.now l.state.here.state l.k
