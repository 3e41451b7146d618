-- `controller::speed` meets its contract: it is the definition. Assumes nothing.
use mathlib.Core.Path.{refl}
use Rattle.controller.proofs.speed.Goals as goal

pub returns : goal.returns
returns c = record { player = refl }
