-- `animation::pose_from` meets its contract: it is the definition, whose first place is at + 0. Assumes nothing.
use native.Mathlib.Nat.{add-zero}
use Rattle.animation.specs.Sampling.{pose_from}
use Rattle.animation.proofs.pose_from.Goals as goal

pub returns : goal.returns
unfolding pose_from
returns c = rw add-zero
