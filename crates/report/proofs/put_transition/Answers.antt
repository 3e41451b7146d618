-- `report::put_transition` meets its contract: a word, and what a running transition has. Assumes nothing.
use Rattle.std.proofs.Common.{arith}
use Rattle.printing.proofs.Laws.{more_written}
use Rattle.report.specs.Report.{transition_fields}
use Rattle.report.proofs.put_transition.Goals as goal

pub returns-in-Idle : goal.returns-in-Idle
unfolding transition_fields
returns-in-Idle c = (rw c.in-Idle.is c.put_bytes.ensures, omega arith)

pub returns-in-Running : goal.returns-in-Running
unfolding transition_fields
returns-in-Running c =
    let begun = more_written c.put_bytes-in-Running.ensures c.put_wide.ensures.0 in
    let fields = more_written (more_written begun c.put_decimal.ensures.0) c.put_bits.ensures.0 in
    (rw c.in-Running.is fields, omega arith)
