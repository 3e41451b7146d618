-- `replay_core::begin` meets its contract: the start's answer and its player. Assumes nothing.
use Rattle.std.proofs.Common.{refl, arith}
use Rattle.replay_core.proofs.Laws.{begun}
use Rattle.replay_core.proofs.begin.Goals as goal

pub returns : goal.returns
returns c =
    begun _ _ _ c.start-answer.ensures c.put_answer.ensures.0 c.put_player.ensures.0 c.new-w.ensures.held c.new-w.ensures.first (omega arith) refl
