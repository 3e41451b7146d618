-- `uses::follow` meets its contract: the state's nodes, then its transitions. Assumes nothing.
use Rattle.uses.proofs.Laws.{state_followed}
use Rattle.uses.proofs.follow.Goals as goal

pub returns : goal.returns
returns c = state_followed _ _ c.state-here.ensures.here (rw c.state-here.ensures.plan at c.mark_nodes.ensures) (rw c.state-here.ensures.plan at c.mark_transitions.ensures)
