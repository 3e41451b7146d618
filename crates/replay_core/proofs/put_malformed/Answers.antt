-- `replay_core::put_malformed` meets its contract: a word, the line's number and LF. Assumes nothing.
use Rattle.std.proofs.Common.{refl, arith}
use Rattle.printing.proofs.Laws.{more_written, front_written}
use Rattle.replay_core.specs.Replay.{malformed_line}
use Rattle.replay_core.proofs.put_malformed.Goals as goal

pub returns : goal.returns
unfolding malformed_line
returns c =
    let line = more_written (more_written c.put_bytes.ensures c.put_decimal.ensures.0) c.put_bytes-2.ensures in
    front_written line c.new-w.ensures.held c.new-w.ensures.first (omega arith) refl
