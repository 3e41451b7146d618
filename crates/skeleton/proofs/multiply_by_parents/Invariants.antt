-- `skeleton::multiply_by_parents` meets its contract: the products of the joints before j are done. Assumes nothing.
use mathlib.Core.Path.{◌≡◌}
use lib.ListN.{length}
use Rattle.skeleton.proofs.Laws.{Through}
use Rattle.skeleton.proofs.multiply_by_parents.Given as goal

abbrev pub invariant-loop-j : goal.invariant-loop-j
invariant-loop-j l = record { same : length l.output ≡ length l.initial.output; done : Through l.plan.words.now l.fn.joints.first l.fn.joints.count l.initial.output l.output l.j }
