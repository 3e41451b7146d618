-- `output_pose::show_transition` meets its contract: the state is shown by the instances that it came with, the target by those after. Assumes nothing.
use Rattle.output_pose.specs.Shown.{shown_pose}
use Rattle.output_pose.proofs.Laws.{blended_to}
use Rattle.output_pose.proofs.show_transition.Goals as goal

pub returns : goal.returns
unfolding shown_pose
returns c = blended_to c.synchronize_target-state.ensures c.show_blocks.ensures
