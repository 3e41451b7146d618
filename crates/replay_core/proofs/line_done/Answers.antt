-- `replay_core::line_done` meets its contract: by whether the line has a call. Assumes nothing.
use Rattle.replay_core.proofs.Laws.{line_called, malformed_called}
use Rattle.replay_core.proofs.line_done.Goals as goal

pub returns-in-None : goal.returns-in-None
returns-in-None c = λ text. malformed_called _ _ _ _ _ text c.in-None.is c.accepted.ensures

pub returns-in-Some : goal.returns-in-Some
returns-in-Some c = λ text. line_called _ _ _ _ _ text c.in-Some.is c.call_done.ensures
