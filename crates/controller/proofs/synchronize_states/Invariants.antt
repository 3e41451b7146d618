-- `controller::synchronize_states` meets its contract. Invariant: the first s states are synchronised. Assumes nothing.
use mathlib.Core.Path.{◌≡◌}
use Rattle.model.specs.Controller.{synchronize_states}
use Rattle.controller.proofs.synchronize_states.Given as goal

abbrev pub invariant-loop-s : goal.invariant-loop-s
invariant-loop-s l = l.instances ≡ synchronize_states l.figure.plan.words.now l.figure.numbers.now l.s l.initial.instances
