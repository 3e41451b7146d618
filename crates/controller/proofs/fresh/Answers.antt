-- `controller::fresh` meets its contract: the blank player in the initial state, with all states synchronised. Assumes nothing.
use mathlib.Core.Path.{ap}
use Rattle.model.specs.declared.Player.{Player}
use Rattle.model.specs.Controller.{blank}
use Rattle.controller.proofs.Laws.{fresh_made}
use Rattle.controller.proofs.fresh.Goals as goal

pub synchronize_states-requires : goal.synchronize_states-requires
unfolding blank
synchronize_states-requires c = ap (λ (p : Player). p.parameters) c.blank-player.ensures

pub returns : goal.returns
returns c = fresh_made _ _ _ c.args.figure.now.plan.laid.found _ c.blank-player.ensures _ c.synchronize_states.ensures
