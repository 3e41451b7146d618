-- `math::matrix_to_quaternion` meets its contract: its last step is `scaled_by_root`. Assumes nothing.
use Rattle.math.proofs.matrix_to_quaternion.Goals as goal

pub returns : goal.returns
returns c = cc
