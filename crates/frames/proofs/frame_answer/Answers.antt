-- `frames::frame_answer` meets its contract: each return is one of the verdict's cases. Assumes nothing.
use native.Mathlib.Omega.{arith}
use mathlib.Core.Path.{refl}
use Rattle.model.specs.Answers.{values}
use Rattle.model.proofs.Laws.Passed.{few_joints}
use Rattle.layout.proofs.Laws.{joints_found, figure_passed}
use Rattle.frames.proofs.Laws.{player_refuses, output_refuses, nothing_refuses}
use Rattle.frames.proofs.frame_answer.Goals as goal

pub returns-then-not-has_states : goal.returns-then-not-has_states
unfolding values
returns-then-not-has_states c =
    let f = c.args.figure.now in
    player_refuses _ _ _ (figure_passed _ f.plan.laid f.whole) f.plan.laid.found _ _ _ _ c.has_states.ensures c.if-not-has_states.true (rw c.at.ensures)

pub output_at-requires : goal.output_at-requires
output_at-requires c =
    let f = c.args.figure.now in
    omega (arith, joints_found _ f.plan.laid.found, few_joints _ _ f.plan.laid.passed)

pub returns-then-length-output_at : goal.returns-then-length-output_at
unfolding values
returns-then-length-output_at c =
    let f = c.args.figure.now in
    output_refuses _ _ _ (figure_passed _ f.plan.laid f.whole) f.plan.laid.found _ _ _ _ c.has_states.ensures c.if-not-has_states.false _ c.output_at.ensures c.if-length-output_at.true (rw c.at-then-length-output_at.ensures)

pub returns : goal.returns
unfolding values
returns c =
    let f = c.args.figure.now in
    nothing_refuses _ _ _ (figure_passed _ f.plan.laid f.whole) f.plan.laid.found _ _ _ _ c.has_states.ensures c.if-not-has_states.false _ c.output_at.ensures c.if-length-output_at.false refl
