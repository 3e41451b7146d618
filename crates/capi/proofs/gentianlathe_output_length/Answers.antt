-- `capi::gentianlathe_output_length` meets its contract. Assumes nothing.
use mathlib.Core.Path.{ap, ◌∙◌}
use Rattle.model.specs.Plan.{joint_count, output_at}
use Rattle.capi.proofs.gentianlathe_output_length.Goals as goal

pub returns : goal.returns
unfolding joint_count
returns c = c.output_at.ensures ∙ ap output_at c.word.ensures.0
