-- `math::inv_sqrt` meets its contract: it is the definition, step by step. Assumes nothing.
use Rattle.model.specs.Numbers.{inv_sqrt}
use Rattle.math.proofs.inv_sqrt.Goals as goal

pub returns : goal.returns
unfolding inv_sqrt
returns c = cc
