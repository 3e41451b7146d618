-- `replay_core::put_call` meets its contract: answer, player, joints and what is told, each behind the other. Assumes nothing.
use Rattle.std.proofs.Common.{arith}
use Rattle.printing.proofs.Laws.{more_written}
use Rattle.replay_core.specs.Replaying.{call_text}
use Rattle.replay_core.proofs.put_call.Goals as goal

pub returns : goal.returns
unfolding call_text
returns c =
    let shown = more_written (more_written c.put_answer.ensures.0 c.put_player.ensures.0) c.put_joints.ensures.0 in
    (more_written shown c.put_told.ensures.0, omega arith)
