-- `controller::start` meets its contract: a refusal of the check is handed on, else the player is fresh. Assumes nothing.
use Rattle.controller.proofs.Laws.{start_handed, start_accepted}
use Rattle.controller.proofs.start.Goals as goal

pub returns-in-Ok : goal.returns-in-Ok
returns-in-Ok c =
    start_accepted _ _ _ c.figure-checked.ensures.answer _ c.answer_of.ensures _ _ c.in-Ok.is (rw (c.in-Ok.ensures.words, c.in-Ok.ensures.numbers) at c.fresh.ensures)

pub returns-in-Err : goal.returns-in-Err
returns-in-Err c = start_handed _ _ _ c.figure-checked.ensures.answer _ c.answer_of.ensures _ _ c.in-Err.is c.blank.ensures
