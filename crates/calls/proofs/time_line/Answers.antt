-- `calls::time_line` meets its contract. Assumes nothing.
use Rattle.calls.specs.CallText.{line_end, time_line}
use Rattle.calls.proofs.LineLaws.{none_read, without, with_value}
use Rattle.calls.proofs.time_line.Goals as goal

pub returns-in_err-time : goal.returns-in_err-time
unfolding time_line
returns-in_err-time g c = λ make makes. none_read c.from_residual.ensures (without _ c.in_err-time.ensures)

pub returns : goal.returns
unfolding time_line
returns g c = λ make makes. with_value (λ x. line_end (make x)) c.in_ok-time.ensures (rw (makes _ _ c.call.ensures) at c.ends.ensures)
