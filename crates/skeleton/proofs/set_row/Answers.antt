-- `skeleton::set_row` meets its contract: four stores side by side. Assumes nothing.
use Rattle.skeleton.proofs.Laws.{stored_four}
use Rattle.skeleton.proofs.set_row.Goals as goal

pub returns : goal.returns
returns c = stored_four c.args.buffer.now c.args.at _ _ _ _ c.requires
