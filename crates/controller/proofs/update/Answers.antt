-- `controller::update` meets its contract: it is the definition. Assumes nothing.
use mathlib.Core.Path.{refl}
use Rattle.controller.proofs.update.Goals as goal

pub returns : goal.returns
returns c = record { player = refl }
