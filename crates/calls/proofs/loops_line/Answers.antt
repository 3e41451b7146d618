-- `calls::loops_line` meets its contract. Assumes nothing.
use Rattle.model.specs.Run as Run
use Rattle.calls.specs.CallText.{line_end, loops_line}
use Rattle.calls.specs.Read.{call_of}
use Rattle.calls.proofs.LineLaws.{none_read, without, with_value}
use Rattle.calls.proofs.loops_line.Goals as goal

pub returns-in_err-state : goal.returns-in_err-state
unfolding loops_line
returns-in_err-state c = none_read c.from_residual.ensures (without _ c.in_err-state.ensures)

pub returns-in_err-node : goal.returns-in_err-node
unfolding loops_line
returns-in_err-node c = with_value _ c.in_ok-state.ensures (none_read c.from_residual-in_err-node.ensures (without _ c.in_err-node.ensures))

pub returns-in_err-time : goal.returns-in_err-time
unfolding loops_line
returns-in_err-time c =
    with_value _ c.in_ok-state.ensures
    (with_value _ c.in_ok-node.ensures (none_read c.from_residual-in_err-time.ensures (without _ c.in_err-time.ensures)))

pub returns : goal.returns
unfolding loops_line call_of
returns c =
    with_value _ c.in_ok-state.ensures
    (with_value _ c.in_ok-node.ensures (with_value (λ x. line_end (Run.Loops c.in_ok-state.state c.in_ok-node.node x)) c.in_ok-time.ensures c.ends.ensures))
