-- `plan::words::check_clips` meets its contract. Invariant: the first c clips pass. Assumes nothing.
use Rattle.model.specs.Check.{check_clip}
use Rattle.plan.proofs.Laws.{Passing}
use Rattle.plan.proofs.words.check_clips.Given as goal

abbrev pub invariant-loop-c : goal.invariant-loop-c
invariant-loop-c l = Passing (check_clip l.plan) l.clips l.c
