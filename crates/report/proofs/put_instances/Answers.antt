-- `report::put_instances` meets its contract: after n turns the first n lines are written. Assumes nothing.
use Rattle.std.proofs.Common.{arith}
use Rattle.model.specs.Program.{joined}
use Rattle.printing.proofs.Laws.{nothing_written, next_line}
use Rattle.report.proofs.put_instances.Goals as goal

pub loop-n-init : goal.loop-n-init
unfolding joined
loop-n-init c = (nothing_written _, omega arith)

pub loop-n-preserved : goal.loop-n-preserved
loop-n-preserved c =
    let l = c.loop-n in
    (next_line l.n _ l.invariant.0 c.put_instance.ensures.0, omega arith)
