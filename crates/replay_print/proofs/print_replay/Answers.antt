-- `print_replay` is safe: both arrays hold the figure of a text that was accepted. Assumes nothing.
use Rattle.std.proofs.Common.{sym, length-take-le}
use Rattle.program_text.proofs.Laws.{figure_read}
use Rattle.replay_print.proofs.print_replay.Goals as goal

pub slice_bounds-plan-end : goal.slice_bounds-plan-end
slice_bounds-plan-end g c = (figure_read _ _ _ _ _ _ c.read_program_text.ensures _ c.in-Ok.is).words_there

pub slice_bounds-plan-end-2 : goal.slice_bounds-plan-end-2
slice_bounds-plan-end-2 g c = sym (length-take-le _ _ (figure_read _ _ _ _ _ _ c.read_program_text.ensures _ c.in-Ok.is).words_there)

pub slice_bounds-numbers-end : goal.slice_bounds-numbers-end
slice_bounds-numbers-end g c = (figure_read _ _ _ _ _ _ c.read_program_text.ensures _ c.in-Ok.is).numbers_there

pub slice_bounds-numbers-end-2 : goal.slice_bounds-numbers-end-2
slice_bounds-numbers-end-2 g c = sym (length-take-le _ _ (figure_read _ _ _ _ _ _ c.read_program_text.ensures _ c.in-Ok.is).numbers_there)
