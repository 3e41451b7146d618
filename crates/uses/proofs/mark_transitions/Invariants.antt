-- `uses::mark_transitions` meets its contract. Invariant: the marks of the first t transitions are added. Assumes nothing.
use Rattle.uses.proofs.Laws.{TransitionsMarked}
use Rattle.uses.proofs.mark_transitions.Given as goal

abbrev pub invariant-loop-t : goal.invariant-loop-t
invariant-loop-t l = TransitionsMarked l.state.plan.words.now l.state.here.state l.t l.initial.marks l.marks
