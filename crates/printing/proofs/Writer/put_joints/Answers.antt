-- `Writer::put_joints` meets its contract: after j turns the first j lines are written. Assumes nothing.
use Rattle.std.proofs.Common.{arith}
use Rattle.model.specs.Program.{joined}
use Rattle.printing.proofs.Laws.{nothing_written, next_line}
use Rattle.printing.proofs.Writer.put_joints.Goals as goal

pub loop-j-init : goal.loop-j-init
unfolding joined
loop-j-init c = (nothing_written _, omega arith)

pub loop-j-preserved : goal.loop-j-preserved
loop-j-preserved c =
    let l = c.loop-j in
    (next_line l.j _ l.invariant.0 c.put_joint.ensures.0, omega arith)
