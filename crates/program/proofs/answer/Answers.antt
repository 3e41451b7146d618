-- `program::answer` meets its contract: what was read is a refusal, which is printed, or a figure, which is shown.
-- Assumes nothing.
use mathlib.Core.Path.{sym}
use lib.Seq.{length-take-le}
use Rattle.program.specs.Questions.{shown}
use Rattle.program_text.proofs.Laws.{refusal_printed, FigureRead, figure_read}
use Rattle.program.proofs.answer.Goals as goal
use Rattle.program.proofs.answer.Goals.{In-Ok}

-- in the accepted arm
known : (c : In-Ok)
    → FigureRead c.args.text.now c.read_program_text.new.plan c.read_program_text.new.numbers c.in-Ok.read.words c.in-Ok.read.numbers
known c = figure_read _ _ _ _ _ _ c.read_program_text.ensures _ c.in-Ok.is

pub slice_bounds-plan-end : goal.slice_bounds-plan-end
slice_bounds-plan-end c = (known (goal.at.slice_bounds-plan-end c).In-Ok).words_there

pub slice_bounds-numbers-end : goal.slice_bounds-numbers-end
slice_bounds-numbers-end c = (known (goal.at.slice_bounds-numbers-end c).In-Ok).numbers_there

pub returns-in-Err : goal.returns-in-Err
returns-in-Err c =
    let question = c.args.question in
    rw (refusal_printed _ _ _ _ _ _ c.read_program_text.ensures (shown question) _ c.in-Err.is)
    at c.put_only_refusal.ensures

pub returns-in-Ok : goal.returns-in-Ok
returns-in-Ok c =
    let question = c.args.question in
    rw ((known (goal.at.returns-in-Ok c).In-Ok).lines (shown question)) at c.show.ensures

pub slice_bounds-show-end : goal.slice_bounds-show-end
slice_bounds-show-end c = sym (length-take-le _ _ (known (goal.at.slice_bounds-show-end c).In-Ok).words_there)

pub slice_bounds-show-end-in-Ok : goal.slice_bounds-show-end-in-Ok
slice_bounds-show-end-in-Ok c = sym (length-take-le _ _ (known (goal.at.slice_bounds-show-end-in-Ok c).In-Ok).numbers_there)
