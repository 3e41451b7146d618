-- `output_pose::transition_factor` meets its contract: widening changes no value. Assumes nothing.
use Rattle.model.specs.Controller.{transition_factor}
use Rattle.output_pose.proofs.transition_factor.Goals as goal

pub returns : goal.returns
unfolding transition_factor
returns c = rw (c.narrow.ensures, c.widen.ensures)
