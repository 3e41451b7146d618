-- `host_player::parameter_set` meets its contract: the outcome of `controller::set` on the player that the flat one stands for. Assumes nothing.
use mathlib.Core.Path.{subst}
use Rattle.model.specs.declared.Player.{Player}
use Rattle.model.specs.Promises.{ParameterSet}
use Rattle.host_player.proofs.Laws.{set_refused, set_accepted}
use Rattle.host_player.proofs.parameter_set.Goals as goal

pub returns-in_default : goal.returns-in_default
returns-in_default c =
    let a = c.args in
    let done = subst (λ (p : Player). ParameterSet p a.parameter a.value c.set-outcome.result) c.from.ensures c.set-outcome.ensures in
    set_refused _ _ _ _ done _ c.from-in_default.ensures _ c.in_default.is

pub returns : goal.returns
returns c =
    let a = c.args in
    let done = subst (λ (p : Player). ParameterSet p a.parameter a.value c.set-outcome.result) c.from.ensures c.set-outcome.ensures in
    set_accepted _ _ _ _ done _ c.from-2.ensures.0 _ c.in-Ok.is _ c.from-2.ensures.1
