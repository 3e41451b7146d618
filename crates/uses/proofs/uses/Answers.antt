-- `uses::uses` meets its contract: a refusal of the check is handed on, else the marks are the figure's. Assumes nothing.
use Rattle.std.proofs.Common.{rules}
use Rattle.model.specs.Answers.{values}
use Rattle.model.specs.Run.{start_verdict}
use Rattle.model.proofs.Laws.Exits.{leaves}
use Rattle.uses.proofs.uses.Goals as goal

pub returns-in_err-figure : goal.returns-in_err-figure
unfolding start_verdict
returns-in_err-figure c = record { answer = leaves _ _ _ _ c.from_residual.ensures.1 c.in_err-figure.ensures.answer; states = search rules; parameters = search rules; clips = search rules }

pub returns : goal.returns
unfolding start_verdict values
returns c =
    let told = c.in_ok-figure.ensures in
    let marks = rw told.words at c.marks_of.ensures in
    record { answer = told.answer; states = marks.states; parameters = marks.parameters; clips = marks.clips }
