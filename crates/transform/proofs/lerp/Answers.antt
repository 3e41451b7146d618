-- `transform::lerp` meets its contract: part by part. Assumes nothing.
use Rattle.model.specs.Pose.{lerp}
use Rattle.transform.proofs.lerp.Goals as goal

pub returns : goal.returns
unfolding lerp
returns c = cc
