-- `host_uses::host_uses` meets its contract: what `uses` found, or its refusal, made flat. Assumes nothing.
use Rattle.model.specs.Answers.{values, unless_refused}
use Rattle.model.specs.Table.{table_to}
use Rattle.model.proofs.Laws.Exits.{passed}
use Rattle.host_player.specs.HostPlayer.{host_answer}
use Rattle.host_uses.proofs.host_uses.Goals as goal

pub returns-in-Ok : goal.returns-in-Ok
unfolding unless_refused host_answer
returns-in-Ok c =
    let found = c.in-Ok.ensures in
    let ok = passed _ _ found.answer in
    record { answer = rw ok; states = rw ok found.states; parameters = rw ok found.parameters; clips = rw ok found.clips }

pub returns-in-Err : goal.returns-in-Err
unfolding values unless_refused host_answer table_to
returns-in-Err c =
    let told = c.in-Err.ensures.answer in
    record { answer = rw (← told, c.number.ensures); states = rw (← told); parameters = rw (← told); clips = rw (← told) }
