-- `controller::set` meets its contract: either number is on its side of the limit. Assumes nothing.
use borrow.Author.Tests.{le-ltb, lt-ltb}
use Rattle.model.specs.Answers.{values, require, unless_refused}
use Rattle.controller.proofs.set.Goals as goal

pub returns-then-n-ge-MAX_PARAMETERS : goal.returns-then-n-ge-MAX_PARAMETERS
unfolding values require unless_refused
returns-then-n-ge-MAX_PARAMETERS c = let e = le-ltb _ _ c.if-n-ge-MAX_PARAMETERS.true in record { answer = rw (e, c.at.ensures); player = rw e }

pub returns : goal.returns
unfolding values require unless_refused
returns c = record { answer = rw (lt-ltb _ _ c.if-n-ge-MAX_PARAMETERS.false); player = rw (lt-ltb _ _ c.if-n-ge-MAX_PARAMETERS.false) }
