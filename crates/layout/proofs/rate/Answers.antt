-- `layout::rate` meets its contract: the numbers begin with the rates. Assumes nothing.
use Rattle.model.specs.Plan.{number, number_at}
use Rattle.layout.proofs.rate.Goals as goal

pub returns : goal.returns
unfolding number number_at
returns c plan = c.number.ensures
