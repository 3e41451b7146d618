-- `print_list` ends: the buffer has room for a report, so each turn performs a call. Assumes nothing.
use Rattle.std.proofs.Common.{rules}
use Rattle.replay_core.proofs.ListLaws.{fewer}
use Rattle.replay_print.proofs.print_list.Goals as goal

pub loop-left-smaller : goal.loop-left-smaller
loop-left-smaller g c = fewer _ _ _ _ _ _ c.perform-progress.ensures (search rules) c.loop-left-test.true
