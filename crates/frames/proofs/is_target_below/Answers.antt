-- `frames::is_target_below` meets its contract, case by case. Assumes nothing.
use Rattle.model.specs.Controller.{is_target_below}
use Rattle.frames.proofs.is_target_below.Goals as goal

pub returns-in-Idle : goal.returns-in-Idle
unfolding is_target_below
returns-in-Idle c = cc

pub returns-in-Running : goal.returns-in-Running
unfolding is_target_below
returns-in-Running c = cc
