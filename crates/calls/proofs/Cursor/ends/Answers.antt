-- `Cursor::ends` meets its contract: LF, and the call. Assumes nothing.
use Rattle.calls.proofs.LineLaws.{line_ends}
use Rattle.calls.proofs.Cursor.ends.Goals as goal

pub returns : goal.returns
returns c = rw c.then_some.ensures (line_ends c.args.call _ c.skip.ensures)
