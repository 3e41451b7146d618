-- `Writer::put_joint` meets its contract: a name, a decimal, floats and LF, each behind the other. Assumes nothing.
use Rattle.std.proofs.Common.{arith}
use Rattle.model.specs.Text.{name}
use Rattle.model.specs.Program.{joint_line}
use Rattle.printing.proofs.Laws.{short_index, more_written, matrix_written}
use Rattle.printing.proofs.Writer.put_joint.Goals as goal

pub returns : goal.returns
unfolding name joint_line
returns c =
    let floats = matrix_written c.args.j c.args.output.now (omega arith) c.put_floats.ensures.0 in
    let fields = more_written (more_written c.put_bytes.ensures c.put_decimal.ensures.0) floats in
    (more_written fields c.put_bytes-2.ensures, omega (arith, short_index c.args.j))
