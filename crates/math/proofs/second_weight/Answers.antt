-- `math::second_weight` meets its contract: by the test. Assumes nothing.
use Rattle.math.proofs.second_weight.Goals as goal

pub returns-then-d : goal.returns-then-d
returns-then-d c = simp c.if-d.true

pub returns-else-d : goal.returns-else-d
returns-else-d c = simp c.if-d.false
