-- `inspect_uses::put_marks` meets its contract: after k turns the first k lines are written. Assumes nothing.
use Rattle.std.proofs.Common.{arith}
use Rattle.model.specs.Program.{joined}
use Rattle.printing.proofs.Laws.{nothing_written, next_line}
use Rattle.inspect_uses.proofs.put_marks.Goals as goal

pub loop-k-init : goal.loop-k-init
unfolding joined
loop-k-init c = (nothing_written _, omega arith)

pub loop-k-preserved : goal.loop-k-preserved
loop-k-preserved c =
    let l = c.loop-k in
    (next_line l.k _ l.invariant.0 c.put_mark.ensures.0, omega arith)
