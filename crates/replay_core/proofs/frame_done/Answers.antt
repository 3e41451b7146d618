-- `replay_core::frame_done` meets its contract: the frame is answered as with the whole output, and leaves its matrices
-- in the front of the floats. Assumes nothing.
use Rattle.std.proofs.Common.{arith, ◌∙◌, length-take-le}
use Rattle.model.specs.Plan.{joint_count}
use Rattle.replay_core.proofs.Laws.{frame_room, frame_refused, frame_accepted_done}
use Rattle.replay_core.proofs.frame_done.Goals as goal

pub returns-in-Ok : goal.returns-in-Ok
unfolding joint_count
returns-in-Ok c =
    let room = length-take-le c.min-room.result c.args.floats.now (omega arith) in
    let same = frame_room _ _ _ _ c.args.output_length (room ∙ c.min-room.ensures) in
    frame_accepted_done _ _ _ _ _ _ _ _ c.frame_of-outcome.ensures _ same _ _ c.in-Ok.is (rw (c.done.ensures, c.word.ensures.0))

pub returns-in-Err : goal.returns-in-Err
returns-in-Err c =
    let room = length-take-le c.min-room.result c.args.floats.now (omega arith) in
    let same = frame_room _ _ _ _ c.args.output_length (room ∙ c.min-room.ensures) in
    frame_refused _ _ _ _ _ _ _ _ c.frame_of-outcome.ensures _ same _ _ _ c.in-Err.is c.done-in-Err.ensures
