use Rattle.std.proofs.lemmas.Result.{err_from_is_err_and}
use Rattle.model.specs.Text.{read_figure}
use Rattle.text.proofs.ReaderLaws.{stops_at, goes_on}
use Rattle.text.proofs.ReadLaws.{header_limits, header_then}
use Rattle.text.proofs.put.Reader.read_figure.Goals as goal

pub returns-in_err-read_line : goal.returns-in_err-read_line
unfolding read_figure
returns-in_err-read_line c =
    let p = err_from_is_err_and c.from_residual.result c.from_residual.ensures.1 in
    rw (p.1, p.2) (stops_at _ c.in_err-read_line.ensures.read)

pub returns-in_err-read_lines : goal.returns-in_err-read_lines
returns-in_err-read_lines c =
    let p = err_from_is_err_and c.from_residual-in_err-read_lines.result c.from_residual-in_err-read_lines.ensures.1 in
    let header = c.in_ok-read_line.ensures in
    rw (p.1, p.2) (header_then header.valued header.read (stops_at _ c.in_err-read_lines.ensures))

pub read_motion-requires : goal.read_motion-requires
read_motion-requires c = header_limits c.in_ok-read_line.ensures.valued

pub returns : goal.returns
returns c =
    let header = c.in_ok-read_line.ensures in
    header_then header.valued header.read (goes_on _ c.in_ok-read_lines.ensures c.read_motion.ensures)
