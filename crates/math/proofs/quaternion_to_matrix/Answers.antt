-- `math::quaternion_to_matrix` meets its contract: it is the definition. Assumes nothing.
use Rattle.std.proofs.Common.{refl}
use Rattle.model.specs.Rotations.{quaternion_to_matrix}
use Rattle.math.proofs.quaternion_to_matrix.Goals as goal

pub returns : goal.returns
unfolding quaternion_to_matrix
returns c = refl
