-- `transform::to_matrix` meets its contract: it is the definition, with the translation stored into the last column. Assumes nothing.
use Rattle.model.specs.Pose.{to_matrix}
use Rattle.transform.proofs.to_matrix.Goals as goal

pub returns : goal.returns
unfolding to_matrix
returns c = cc
