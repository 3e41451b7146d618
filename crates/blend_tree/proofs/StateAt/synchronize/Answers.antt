-- `blend_tree::StateAt::synchronize` meets its contract. Invariant: the first i nodes are synchronised. Assumes nothing.
use mathlib.Core.Path.{◌≡◌, refl, ◌∙◌}
use native.Mathlib.Numerals.{add-one}
use native.Mathlib.Omega.{arith}
use Rattle.model.specs.Plan.{node_count}
use Rattle.model.specs.Tree.{synchronize_nodes, synchronize}
use Rattle.layout.proofs.Laws.{nodes_counted}
use Rattle.blend_tree.proofs.StateAt.synchronize.Goals as goal

pub loop-i-init : goal.loop-i-init
unfolding synchronize_nodes
loop-i-init c = refl

pub loop-i-preserved : goal.loop-i-preserved
unfolding synchronize_nodes
loop-i-preserved c = c.synchronize_node.ensures ∙ rw (add-one, c.loop-i.invariant)

pub returns : goal.returns
unfolding synchronize
returns c =
    let at = c.args.self.now in
    let last : c.loop-i.i ≡ node_count at.figure.plan.words.now at.here.state = omega (arith, nodes_counted at.place) in
    (rw (c.state.ensures.plan, c.state.ensures.here) at c.clip_slots.ensures, rw last at c.loop-i.invariant)
