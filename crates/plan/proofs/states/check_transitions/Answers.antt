-- `plan::states::check_transitions` meets its contract. Invariant: the first t transitions pass. Assumes nothing.
use Rattle.plan.proofs.Laws.{passing_none, passing_next, passing_stops, passing_all}
use Rattle.plan.proofs.states.check_transitions.Goals as goal

pub loop-t-init : goal.loop-t-init
loop-t-init c = passing_none _ _

pub returns-in_err-check_transition : goal.returns-in_err-check_transition
returns-in_err-check_transition c = passing_stops c.loop-t.invariant c.loop-t-test.true _ _ _ c.from_residual.ensures.1 c.in_err-check_transition.ensures

pub loop-t-preserved : goal.loop-t-preserved
loop-t-preserved c = passing_next c.loop-t.invariant c.loop-t-test.true _ c.in_ok-check_transition.ensures

pub returns : goal.returns
returns c = passing_all c.loop-t.invariant _ c.loop-t-test.false
