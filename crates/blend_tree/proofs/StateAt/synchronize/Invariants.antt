-- `blend_tree::StateAt::synchronize` meets its contract. Invariant: the first i nodes are synchronised. Assumes nothing.
use mathlib.Core.Path.{◌≡◌}
use Rattle.model.specs.Tree.{synchronize_nodes}
use Rattle.blend_tree.proofs.StateAt.synchronize.Given as goal

abbrev pub invariant-loop-i : goal.invariant-loop-i
invariant-loop-i l =
    l.instances ≡ synchronize_nodes l.self.figure.plan.words.now l.self.figure.numbers.now l.parameters l.self.time l.self.here.state l.i l.initial.instances
