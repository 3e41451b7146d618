-- `host_player::updated` meets its contract: `controller::update` on the player that the flat one stands for. Assumes nothing.
use Rattle.model.specs.declared.Player.{Player}
use Rattle.model.specs.Controller.{updated}
use Rattle.host_player.proofs.Laws.{between}
use Rattle.host_player.proofs.updated.Goals as goal

pub returns : goal.returns
returns c =
    let delta = c.args.delta in
    record { player = between _ (λ (p : Player). updated p delta) c.from.ensures c.update.ensures.player c.from-2.ensures }
