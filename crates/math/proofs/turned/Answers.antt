-- `math::turned` meets its contract: row by row. Assumes nothing.
use Rattle.math.proofs.turned.Goals as goal

pub returns : goal.returns
returns c = cc
