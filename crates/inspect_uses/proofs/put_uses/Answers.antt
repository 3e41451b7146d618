-- `inspect_uses::put_uses` meets its contract: the lines of the three kinds, each behind the other. Assumes nothing.
use Rattle.std.proofs.Common.{arith}
use Rattle.model.specs.Plan.{state_count, parameter_count, clip_count}
use Rattle.model.specs.Text.{name}
use Rattle.inspect_uses.proofs.Laws.{marks_written, uses_written}
use Rattle.inspect_uses.proofs.put_uses.Goals as goal

pub returns : goal.returns
unfolding name state_count parameter_count clip_count
returns c =
    let m = c.args.marks.now in
    let states = marks_written _ m.states c.word-states.result (omega arith) c.put_marks.ensures.0 in
    let parameters = marks_written _ m.parameters c.word-parameters.result (omega arith) c.put_marks-2.ensures.0 in
    let clips = marks_written _ m.clips c.word-clips.result (omega arith) c.put_marks-3.ensures.0 in
    let lines =
    uses_written c.args.plan.now _ _ _ (rw c.word-states.ensures.0 at states) (rw c.word-parameters.ensures.0 at parameters) (rw c.word-clips.ensures.0 at clips) in
    (lines, omega arith)
