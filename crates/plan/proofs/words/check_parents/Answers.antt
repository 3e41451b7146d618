-- `plan::words::check_parents` meets its contract. Invariant: the first j parents pass. Assumes nothing.
use Rattle.plan.proofs.Laws.{passing_none, passing_next, passing_stops, passing_all}
use Rattle.plan.proofs.words.check_parents.Goals as goal

pub loop-j-init : goal.loop-j-init
loop-j-init c = passing_none _ _

pub returns-in_err-check_parent : goal.returns-in_err-check_parent
returns-in_err-check_parent c = passing_stops c.loop-j.invariant c.loop-j-test.true _ _ _ c.from_residual.ensures.1 c.in_err-check_parent.ensures

pub loop-j-preserved : goal.loop-j-preserved
loop-j-preserved c = passing_next c.loop-j.invariant c.loop-j-test.true _ c.in_ok-check_parent.ensures

pub returns : goal.returns
returns c = passing_all c.loop-j.invariant _ c.loop-j-test.false
