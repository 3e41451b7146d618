-- `skeleton::matrix_at` meets its contract: row by row. Assumes nothing.
use lib.Seq.{drop-drop}
use Rattle.skeleton.specs.Buffer.{matrix_from}
use Rattle.skeleton.proofs.matrix_at.Goals as goal

pub returns : goal.returns
unfolding matrix_from
returns c = simp (c.row_at.ensures, c.row_at-2.ensures, c.row_at-3.ensures, c.row_at-4.ensures, drop-drop)
