-- `host_player::host_frame` meets its contract, by the case of the answer. Assumes nothing.
use Rattle.host_player.proofs.Laws.{frame_accepted, frame_refused}
use Rattle.host_player.proofs.host_frame.Goals as goal

pub returns-in_default : goal.returns-in_default
returns-in_default c = frame_refused _ _ c.from-before.ensures _ c.frame-frame.ensures c.from-answer.ensures _ c.in_default.is

pub returns : goal.returns
returns c = frame_accepted _ _ c.from-before.ensures _ c.frame-frame.ensures c.from-answer.ensures _ c.in-Ok.is _ c.from.ensures
