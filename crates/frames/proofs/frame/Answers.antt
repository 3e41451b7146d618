-- `frames::frame` meets its contract: a refusal of the check or of the player is handed on, else the frame is played. Assumes nothing.
use mathlib.Core.Path.{◌≡◌}
use lib.ListN.{length}
use Rattle.model.specs.Answers.{accepted}
use Rattle.model.specs.Controller.{frame_verdict}
use Rattle.frames.specs.Parts.{player_of, FrameAnswered}
use Rattle.frames.proofs.Laws.{check_handed, frame_handed, now_accepted, frame_state, frame_target, frame_fits, frame_accepted}
use Rattle.frames.proofs.frame.Goals as goal
use Rattle.frames.proofs.frame.Goals.{After-frame_answer-answer, In-Ok-answer}

-- the answer is that of the plan and the numbers that were lent
answered : (c : After-frame_answer-answer) → let a = c.args in FrameAnswered a.plan.now a.numbers.now a.parts (length a.output.now) c.frame_answer-answer.result
answered c = rw (c.in-Ok.ensures.words, c.in-Ok.ensures.numbers) at c.frame_answer-answer.ensures

passed : (c : In-Ok-answer) → let a = c.args in frame_verdict a.plan.now a.numbers.now (player_of a.parts a.parameters.now a.instances.now) (length a.output.now) ≡ accepted
passed c =
    let a = c.args in
    now_accepted a.kind _ _ _ a.parameters.now a.instances.now a.ext a.output.now _ (answered (goal.at.In-Ok-answer c).After-frame_answer-answer) _ c.in-Ok-answer.is

pub returns-in_default : goal.returns-in_default
returns-in_default c =
    check_handed _ _ _ _ _ _ _ _ _ c.figure-checked.ensures.answer _ c.in_default.is _ c.answer_of.ensures _ c.kept.ensures

pub returns-in_default-answer : goal.returns-in_default-answer
returns-in_default-answer c =
    frame_handed _ _ _ _ _ _ _ _ _ (answered (goal.at.returns-in_default-answer c).After-frame_answer-answer) _ c.in_default-answer.is _ c.kept-in_default-answer.ensures

pub play-stepped-requires-clause-state : goal.play-stepped-requires-clause-state
play-stepped-requires-clause-state c = rw c.in-Ok.ensures.words (frame_state _ _ _ _ (passed (goal.at.play-stepped-requires-clause-state c).In-Ok-answer))

pub play-stepped-requires-clause-target : goal.play-stepped-requires-clause-target
play-stepped-requires-clause-target c = rw c.in-Ok.ensures.words (frame_target _ _ _ _ (passed (goal.at.play-stepped-requires-clause-target c).In-Ok-answer))

pub play-stepped-requires-clause-room : goal.play-stepped-requires-clause-room
play-stepped-requires-clause-room c = rw c.in-Ok.ensures.words (frame_fits _ _ _ _ (passed (goal.at.play-stepped-requires-clause-room c).In-Ok-answer))

pub returns : goal.returns
returns c =
    frame_accepted _ _ _ _ _ _ _ _ _ (answered (goal.at.returns c).After-frame_answer-answer) _ c.in-Ok-answer.is _ _ (rw (c.in-Ok.ensures.words, c.in-Ok.ensures.numbers) at c.play-stepped.ensures)
