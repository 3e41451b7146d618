-- `output_pose::synchronize_target` meets its contract: the target's layout is the plan's. Assumes nothing.
use mathlib.Core.Path.{refl}
use Rattle.layout.proofs.Laws.{same_state, in_plan}
use Rattle.output_pose.proofs.synchronize_target.Goals as goal

pub invariant_of-there : goal.invariant_of-there
invariant_of-there c = record { place = in_plan _ _ c.state_layout-here.ensures c.requires }

pub returns : goal.returns
returns c =
    let same = same_state _ _ c.state_layout-here.ensures in
    record { figure = refl; number = same; time = refl; filled = c.synchronize.ensures.0; instances = rw (← same) c.synchronize.ensures.1 }
