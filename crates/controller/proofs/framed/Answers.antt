-- `controller::framed` meets its contract: that of `frames::frame`, on the player that its parts make up. Assumes nothing.
use Rattle.controller.proofs.framed.Goals as goal

pub returns : goal.returns
returns c = rw c.from.ensures at c.frame-done.ensures
