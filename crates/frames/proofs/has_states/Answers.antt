-- `frames::has_states` meets its contract: both tests. Assumes nothing.
use Rattle.frames.proofs.has_states.Goals as goal

pub returns : goal.returns
returns c = rw c.is_target_below.ensures
