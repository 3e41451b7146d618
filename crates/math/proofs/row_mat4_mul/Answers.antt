-- `math::row_mat4_mul` meets its contract: row by row. Assumes nothing.
use Rattle.model.specs.Rotations.{product}
use Rattle.math.proofs.row_mat4_mul.Goals as goal

pub returns : goal.returns
unfolding product
returns c = cc
