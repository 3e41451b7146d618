-- `calls::set_line` meets its contract. Assumes nothing.
use Rattle.model.specs.Run as Run
use Rattle.calls.specs.CallText.{line_end, set_line}
use Rattle.calls.specs.Read.{call_of}
use Rattle.calls.proofs.LineLaws.{none_read, without, with_value}
use Rattle.calls.proofs.set_line.Goals as goal

pub returns-in_err-parameter : goal.returns-in_err-parameter
unfolding set_line
returns-in_err-parameter c = none_read c.from_residual.ensures (without _ c.in_err-parameter.ensures)

pub returns-in_err-value : goal.returns-in_err-value
unfolding set_line
returns-in_err-value c =
    with_value _ c.in_ok-parameter.ensures (none_read c.from_residual-in_err-value.ensures (without _ c.in_err-value.ensures))

pub returns : goal.returns
unfolding set_line call_of
returns c =
    with_value _ c.in_ok-parameter.ensures
    (with_value (λ x. line_end (Run.Set c.in_ok-parameter.parameter x)) c.in_ok-value.ensures c.ends.ensures)
