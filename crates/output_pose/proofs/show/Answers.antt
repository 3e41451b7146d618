-- `output_pose::show` meets its contract: either case of the transition is the definition's, call by call. Assumes nothing.
use Rattle.output_pose.specs.Shown.{shown_pose}
use Rattle.output_pose.proofs.Laws.{target_below, shown_idle, shown_running}
use Rattle.output_pose.proofs.show.Goals as goal

pub returns-in-Idle : goal.returns-in-Idle
unfolding shown_pose
returns-in-Idle c =
    shown_idle _ _ _ _ _ _ _ _ _ _ _ _ c.in-Idle.is (record { instances = c.synchronize.ensures.1; output = c.show_blocks.ensures })

pub show_transition-requires : goal.show_transition-requires
show_transition-requires c = (target_below _ _ _ _ _ c.in-Running.is c.requires.0, c.requires.1)

pub returns-in-Running : goal.returns-in-Running
returns-in-Running c =
    shown_running _ _ _ _ _ _ _ _ _ _ _ _ c.in-Running.is c.transition_factor-factor.ensures c.synchronize.ensures.1 c.show_transition.ensures
