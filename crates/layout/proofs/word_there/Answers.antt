-- `layout::word_there` meets its contract: a u16 fits. Assumes nothing.
use mathlib.Core.Path.{refl}
use native.Mathlib.Omega.{arith}
use Rattle.model.specs.Plan.{word}
use Rattle.layout.proofs.word_there.Goals as goal

pub overflow_cast-result : goal.overflow_cast-result
overflow_cast-result c = omega (arith, c.shared_slice_known-1.given c.args.at)

pub returns : goal.returns
unfolding word
returns c = (refl, omega (arith, c.shared_slice_known-1.given c.args.at))
