-- `plan::laid_out` meets its contract: its words are those of the definition, and there are few transitions. Assumes nothing.
use native.Mathlib.Omega.{arith}
use Rattle.model.specs.Plan.{joint_count, clip_count, state_count, initial_state, state_at, poses_at}
use Rattle.layout.specs.Layout.{layout_of}
use Rattle.plan.proofs.Worded.{few_transitions_in_all}
use Rattle.plan.proofs.laid_out.Goals as goal

pub overflow_mul-result : goal.overflow_mul-result
overflow_mul-result c = omega (arith, few_transitions_in_all _ c.requires.0)

pub overflow_add-result : goal.overflow_add-result
overflow_add-result c = omega (arith, few_transitions_in_all _ c.requires.0)

pub returns : goal.returns
unfolding layout_of joint_count clip_count state_count initial_state state_at poses_at
returns c =
    rw (c.sample_count_at.ensures _ c.word-joints.ensures.0, c.word-2.ensures.0, c.word.ensures.0, c.word-clips.ensures.0, c.word-joints.ensures.0, c.requires.1)
