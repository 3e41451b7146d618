-- `Writer::put_floats` meets its contract: after k turns the first k floats are written. Assumes nothing.
use Rattle.std.proofs.Common.{arith}
use Rattle.model.specs.Program.{bits_fields}
use Rattle.printing.proofs.Laws.{nothing_written, next_float}
use Rattle.printing.proofs.Writer.put_floats.Goals as goal

pub loop-x-init : goal.loop-x-init
unfolding bits_fields
loop-x-init c = (nothing_written _, omega arith)

pub loop-x-preserved : goal.loop-x-preserved
loop-x-preserved c =
    let l = c.loop-x in
    (next_float _ l.x-index (omega arith) l.invariant.0 c.put_bits.ensures.0, omega arith)
