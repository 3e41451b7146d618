-- `host_player::started` meets its contract: the outcome of `controller::start`, made flat. Assumes nothing.
use mathlib.Core.Path.{ap, ◌∙◌}
use Rattle.host_player.specs.HostPlayer.{packed, host_answer}
use Rattle.host_player.proofs.started.Goals as goal

pub returns : goal.returns
returns c =
    record {
      answer = c.from.ensures.0 ∙ ap host_answer c.start.ensures.answer;
      player = c.from.ensures.1 ∙ ap packed c.start.ensures.player;
    }
