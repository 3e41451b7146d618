-- `plan::words::check_clips` meets its contract. Invariant: the first c clips pass. Assumes nothing.
use Rattle.plan.proofs.Laws.{passing_none, passing_next, passing_stops, passing_all}
use Rattle.plan.proofs.words.check_clips.Goals as goal

pub loop-c-init : goal.loop-c-init
loop-c-init c = passing_none _ _

pub returns-in_err-check_clip : goal.returns-in_err-check_clip
returns-in_err-check_clip c = passing_stops c.loop-c.invariant c.loop-c-test.true _ _ _ c.from_residual.ensures.1 c.in_err-check_clip.ensures

pub loop-c-preserved : goal.loop-c-preserved
loop-c-preserved c = passing_next c.loop-c.invariant c.loop-c-test.true _ c.in_ok-check_clip.ensures

pub returns : goal.returns
returns c = passing_all c.loop-c.invariant _ c.loop-c-test.false
