use Rattle.std.proofs.lemmas.Result.{err_from_is_err_and}
use Rattle.text.proofs.LineLaws.{line_stops, line_values, line_room, line_steps}
use Rattle.text.proofs.ReaderLaws.{same_on}
use Rattle.text.proofs.put.Reader.read_line.Goals as goal

pub returns-in_err-pass_line-clause-read : goal.returns-in_err-pass_line-clause-read
returns-in_err-pass_line-clause-read c =
    let p = err_from_is_err_and c.from_residual.result c.from_residual.ensures.1 in
    let e = c.in_err-pass_line.ensures in
    rw (p.1, p.2) record { same = e.same.0; step = line_stops _ _ _ _ _ _ _ _ e.line.0 e.line.1 }

pub put_line-requires : goal.put_line-requires
put_line-requires c =
    let line = c.in_ok-pass_line.ensures.line in
    (line_values line.1, rw line.0 (line_room line.1))

pub returns-clause-read : goal.returns-clause-read
returns-clause-read c =
    let passed = c.in_ok-pass_line.ensures in
    let put = c.put_line.ensures in
    record { same = same_on passed.same.0 put.same; step = line_steps passed.line.1 (rw (passed.line.0, passed.same.1, passed.same.2) at put.put) }
