-- `Writer::put_refusal` meets its contract: a word, two decimals and LF, each behind the other. Assumes nothing.
use Rattle.std.proofs.Common.{arith}
use Rattle.model.specs.Program.{refused_line}
use Rattle.printing.proofs.Laws.{more_written, decimals_written}
use Rattle.printing.proofs.Writer.put_refusal.Goals as goal

pub returns : goal.returns
unfolding refused_line
returns c =
    let fields = decimals_written _ _ c.number.ensures c.put_decimal.ensures.0 c.put_decimal-2.ensures.0 in
    (more_written (more_written c.put_bytes.ensures fields) c.put_bytes-2.ensures, omega arith)
