-- `uses::mark_nodes` meets its contract. Invariant: the marks of the first i nodes are added. Assumes nothing.
use native.Mathlib.Omega.{arith}
use Rattle.uses.proofs.Laws.{nodes_start, nodes_next, nodes_done}
use Rattle.uses.proofs.mark_nodes.Goals as goal

pub loop-i-init : goal.loop-i-init
loop-i-init c = nodes_start _ _ _

pub loop-i-preserved : goal.loop-i-preserved
loop-i-preserved c = nodes_next _ _ _ c.loop-i.invariant c.mark_node.ensures

pub returns : goal.returns
returns c = nodes_done c.args.state.now.place (omega arith) c.loop-i.invariant
