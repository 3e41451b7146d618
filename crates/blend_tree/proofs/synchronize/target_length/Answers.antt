-- `blend_tree::synchronize::target_length` meets its contract: it is the definition. Assumes nothing.
use mathlib.Core.Path.{refl}
use Rattle.model.specs.Tree.{target_length}
use Rattle.blend_tree.proofs.synchronize.target_length.Goals as goal

pub returns : goal.returns
unfolding target_length
returns c = refl
