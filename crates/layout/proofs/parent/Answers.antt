-- `layout::parent` meets its contract: it is the word at its place. Assumes nothing.
use Rattle.model.specs.Plan.{parent}
use Rattle.layout.proofs.parent.Goals as goal

pub returns : goal.returns
unfolding parent
returns c = c.word_there.ensures.0
