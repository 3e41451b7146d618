-- `HostTextAnswer::from` meets its contract, by the case of the answer. Assumes nothing.
use Rattle.model.specs.Text.{text_values}
use Rattle.host_player.specs.HostPlayer.{host_text_answer}
use Rattle.host_player.proofs.HostTextAnswerFromResultLengthsRefusal.from.Goals as goal

pub returns-in-Ok : goal.returns-in-Ok
unfolding text_values host_text_answer
returns-in-Ok c = rw c.in-Ok.is

pub returns-in-Err : goal.returns-in-Err
unfolding text_values host_text_answer
returns-in-Err c = rw (c.in-Err.is, c.number.ensures)
