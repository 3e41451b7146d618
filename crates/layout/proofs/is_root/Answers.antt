-- `layout::is_root` meets its contract: it is the definition. Assumes nothing.
use mathlib.Core.Path.{refl}
use Rattle.model.specs.Plan.{is_root_word}
use Rattle.layout.proofs.is_root.Goals as goal

pub returns : goal.returns
unfolding is_root_word
returns c = refl
