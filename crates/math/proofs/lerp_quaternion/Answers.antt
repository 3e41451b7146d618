-- `math::lerp_quaternion` meets its contract: it is the definition, step by step. Assumes nothing.
use Rattle.model.specs.Rotations.{normalised, lerp_quaternion}
use Rattle.math.proofs.lerp_quaternion.Goals as goal

pub returns : goal.returns
unfolding normalised lerp_quaternion
returns c = rw (c.scaled.ensures, c.inv_sqrt.ensures, c.dot-2.ensures, c.weighted_sum-sum.ensures, c.second_weight-t.ensures, c.dot.ensures)
