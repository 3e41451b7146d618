-- `plan::words::within` meets its contract: both tests of the definition. Assumes nothing.
use borrow.Author.Tests.{lt-leb, le-leb}
use Rattle.model.specs.Check.{within}
use Rattle.plan.proofs.words.within.Goals as goal

pub returns-then-low-x : goal.returns-then-low-x
unfolding within
returns-then-low-x c = rw (le-leb _ _ c.if-low-x.true)

pub returns-else-low-x : goal.returns-else-low-x
unfolding within
returns-else-low-x c = rw (lt-leb _ _ c.if-low-x.false)
