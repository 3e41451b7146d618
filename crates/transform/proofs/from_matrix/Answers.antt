-- `transform::from_matrix` meets its contract: part by part. Assumes nothing.
use Rattle.model.specs.Pose.{from_matrix}
use Rattle.transform.proofs.from_matrix.Goals as goal

pub returns : goal.returns
unfolding from_matrix
returns c = cc
