-- `host_player::with_speed` meets its contract: `controller::speed` on the player that the flat one stands for. Assumes nothing.
use Rattle.model.specs.declared.Player.{Player}
use Rattle.model.specs.Controller.{with_speed}
use Rattle.host_player.proofs.Laws.{between}
use Rattle.host_player.proofs.with_speed.Goals as goal

pub returns : goal.returns
returns c =
    let value = c.args.value in
    record { player = between _ (λ (p : Player). with_speed p value) c.from.ensures c.speed.ensures.player c.from-2.ensures }
