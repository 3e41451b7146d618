-- `transform::lerp_vector` meets its contract: part by part. Assumes nothing.
use Rattle.transform.proofs.lerp_vector.Goals as goal

pub returns : goal.returns
returns c = cc
