-- `replay_core::perform` meets its contract: each turn performs the first of the lines that are left. Assumes nothing.
use Rattle.replay_core.proofs.ListLaws.{Performed}
use Rattle.replay_core.proofs.perform.Given as goal

abbrev pub invariant-loop-left : goal.invariant-loop-left
invariant-loop-left l = Performed l.plan l.numbers l.text l.initial.left l.initial.w l.w l.left

abbrev pub decreases-loop-left : goal.decreases-loop-left
decreases-loop-left l = l.left.lines
