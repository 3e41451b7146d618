-- `report::put_player` meets its contract: a word, clock, speed, state, transition and LF. Assumes nothing.
use Rattle.std.proofs.Common.{arith}
use Rattle.printing.proofs.Laws.{more_written}
use Rattle.report.specs.Report.{player_line}
use Rattle.report.proofs.put_player.Goals as goal

pub returns : goal.returns
unfolding player_line
returns c =
    let begun = more_written (more_written c.put_bytes.ensures c.put_wide.ensures.0) c.put_wide-2.ensures.0 in
    let fields = more_written (more_written begun c.put_decimal.ensures.0) c.put_transition.ensures.0 in
    (more_written fields c.put_bytes-2.ensures, omega arith)
