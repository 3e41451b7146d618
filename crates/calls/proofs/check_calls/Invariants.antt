-- `calls::check_calls` meets its contract. The loop's invariant: the lines passed are calls. Assumes nothing.
use Rattle.calls.proofs.Laws.{Passed}
use Rattle.calls.proofs.check_calls.Given as goal

abbrev pub invariant-loop-i : goal.invariant-loop-i
invariant-loop-i l = Passed l.text l.lines l.at l.i
