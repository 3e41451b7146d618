-- `blend_tree::poses::additive` meets its contract: it is the definition. Assumes nothing.
use Rattle.model.specs.Tree.{additive}
use Rattle.blend_tree.proofs.poses.additive.Goals as goal

pub returns : goal.returns
unfolding additive
returns c = rw (c.concat.ensures, c.lerp.ensures, c.identity.ensures)
