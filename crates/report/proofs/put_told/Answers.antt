-- `report::put_told` meets its contract: nothing, or a word, two decimals and LF. Assumes nothing.
use Rattle.std.proofs.Common.{refl, arith}
use Rattle.printing.proofs.Laws.{nothing_written, more_written, decimals_written}
use Rattle.report.specs.Report.{told_text, told_values}
use Rattle.report.proofs.put_told.Goals as goal

pub returns-in-None : goal.returns-in-None
unfolding told_text told_values
returns-in-None c = (rw c.in-None.is (nothing_written _), omega arith)

pub returns-in-Some : goal.returns-in-Some
unfolding told_text told_values
returns-in-Some c =
    let fields = decimals_written _ _ refl c.put_decimal.ensures.0 c.put_decimal-in-Some.ensures.0 in
    let line = more_written (more_written c.put_bytes.ensures fields) c.put_bytes-in-Some.ensures in
    (rw c.in-Some.is line, omega arith)
