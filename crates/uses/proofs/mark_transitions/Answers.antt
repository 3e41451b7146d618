-- `uses::mark_transitions` meets its contract. Invariant: the marks of the first t transitions are added. Assumes nothing.
use native.Mathlib.Omega.{arith}
use Rattle.layout.proofs.Laws.{laid_passes}
use Rattle.layout.proofs.NodeLaws.{parameter_there}
use Rattle.uses.proofs.Laws.{transitions_start, target_small, transition_marked, transitions_next, transitions_done}
use Rattle.uses.proofs.mark_transitions.Goals as goal

pub loop-t-init : goal.loop-t-init
loop-t-init c = transitions_start _ _ _

pub bounds-marks-condition : goal.bounds-marks-condition
bounds-marks-condition c = let s = c.args.state.now in parameter_there (laid_passes s.plan.laid) s.place c.loop-t-test.true c.condition-condition.ensures

pub bounds-marks-condition-in-loop-t : goal.bounds-marks-condition-in-loop-t
bounds-marks-condition-in-loop-t c = let s = c.args.state.now in target_small (laid_passes s.plan.laid) s.place c.loop-t-test.true c.condition-condition.ensures

pub loop-t-preserved : goal.loop-t-preserved
loop-t-preserved c =
    let s = c.args.state.now in
    transitions_next _ _ _ c.loop-t.invariant (transition_marked (laid_passes s.plan.laid) s.place c.loop-t-test.true c.condition-condition.ensures _ (omega arith) (omega arith))

pub returns : goal.returns
returns c = transitions_done c.args.state.now.place (omega arith) c.loop-t.invariant
