-- `uses::mark_nodes` meets its contract. Invariant: the marks of the first i nodes are added. Assumes nothing.
use Rattle.uses.proofs.Laws.{NodesMarked}
use Rattle.uses.proofs.mark_nodes.Given as goal

abbrev pub invariant-loop-i : goal.invariant-loop-i
invariant-loop-i l = NodesMarked l.state.plan.words.now l.state.here.state l.i l.initial.marks l.marks
