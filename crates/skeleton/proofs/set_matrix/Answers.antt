-- `skeleton::set_matrix` meets its contract: four rows side by side. Assumes nothing.
use Rattle.skeleton.proofs.Laws.{stored_rows}
use Rattle.skeleton.proofs.set_matrix.Goals as goal

pub returns : goal.returns
returns c =
    stored_rows c.args.m c.args.at c.args.buffer.now c.requires c.set_row.ensures c.set_row-2.ensures c.set_row-3.ensures c.set_row-4.ensures
