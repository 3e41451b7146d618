-- `print_list` ends: the buffer has room for a report, so each turn performs a call.
use Rattle.replay_print.proofs.print_list.Given as goal

abbrev pub decreases-loop-left : goal.decreases-loop-left
decreases-loop-left g l = l.left.lines
