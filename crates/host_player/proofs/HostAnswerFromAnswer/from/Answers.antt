-- `HostAnswer::from` meets its contract, by the case of the answer. Assumes nothing.
use Rattle.model.specs.Answers.{values}
use Rattle.host_player.specs.HostPlayer.{host_answer}
use Rattle.host_player.proofs.HostAnswerFromAnswer.from.Goals as goal

pub returns-in-Ok : goal.returns-in-Ok
unfolding values host_answer
returns-in-Ok c = rw c.in-Ok.is

pub returns-in-Err : goal.returns-in-Err
unfolding values host_answer
returns-in-Err c = rw (c.in-Err.is, c.number_and_place.ensures)
