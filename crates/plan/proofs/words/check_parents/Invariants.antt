-- `plan::words::check_parents` meets its contract. Invariant: the first j parents pass. Assumes nothing.
use Rattle.model.specs.Check.{check_parent}
use Rattle.plan.proofs.Laws.{Passing}
use Rattle.plan.proofs.words.check_parents.Given as goal

abbrev pub invariant-loop-j : goal.invariant-loop-j
invariant-loop-j l = Passing (check_parent l.plan) l.joints l.j
