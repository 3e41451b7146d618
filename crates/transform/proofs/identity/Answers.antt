-- `transform::identity` meets its contract: it is the definition. Assumes nothing.
use mathlib.Core.Path.{refl}
use Rattle.model.specs.Pose.{identity_pose}
use Rattle.transform.proofs.identity.Goals as goal

pub returns : goal.returns
unfolding identity_pose
returns c = refl
