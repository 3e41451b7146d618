-- `math::product_row` meets its contract: it is the definition. Assumes nothing.
use Rattle.std.proofs.Common.{refl}
use Rattle.model.specs.Rotations.{product_row}
use Rattle.math.proofs.product_row.Goals as goal

pub returns : goal.returns
unfolding product_row
returns c = refl
