-- `layout::sample_count_at` meets its contract: the parents end there. Assumes nothing.
use Rattle.model.specs.Plan.{sample_count_at}
use Rattle.layout.proofs.sample_count_at.Goals as goal

pub returns : goal.returns
unfolding sample_count_at
returns c plan e = rw e
