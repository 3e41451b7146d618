use Rattle.std.proofs.lemmas.Result.{err_from_is_err_and}
use Rattle.text.specs.Figures.{read_poses}
use Rattle.text.proofs.ReaderLaws.{stops_at, goes_on}
use Rattle.text.proofs.put.Reader.read_poses.Goals as goal

pub returns-in_err-read_lines : goal.returns-in_err-read_lines
unfolding read_poses
returns-in_err-read_lines c =
    let p = err_from_is_err_and c.from_residual.result c.from_residual.ensures.1 in
    rw (p.1, p.2) (stops_at _ c.in_err-read_lines.ensures)

pub returns : goal.returns
unfolding read_poses
returns c = goes_on _ c.in_ok-read_lines.ensures c.read_end.ensures
