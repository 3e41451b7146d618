-- `capi::gentianlathe_read_text` meets its contract: the answer of `text::read`, made flat. Assumes nothing.
use mathlib.Core.Path.{ap, ◌∙◌}
use Rattle.host_player.specs.HostPlayer.{host_text_answer}
use Rattle.capi.proofs.gentianlathe_read_text.Goals as goal

pub returns : goal.returns
returns c =
    let done = c.read.ensures in
    record { answer = c.from.ensures ∙ ap host_text_answer done.answer; plan = done.plan; numbers = done.numbers }
