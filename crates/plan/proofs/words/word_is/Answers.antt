-- `plan::words::word_is` meets its contract: the definition's two tests, in its order. Assumes nothing.
use borrow.Author.Tests.{lt-ltb, le-ltb}
use Rattle.model.specs.Answers.{values, ◌then◌, require}
use Rattle.model.specs.Check.{word_is}
use Rattle.plan.proofs.words.word_is.Goals as goal

pub returns-then-plan-at : goal.returns-then-plan-at
unfolding values word_is ◌then◌ require
returns-then-plan-at c = rw (c.at.ensures, le-ltb _ _ c.if-plan-at.true)

pub returns-then-not-ok : goal.returns-then-not-ok
unfolding values word_is ◌then◌ require
returns-then-not-ok c = rw (c.at-then-not-ok.ensures, lt-ltb _ _ c.if-plan-at.false, c.if-not-ok.true)

pub returns : goal.returns
unfolding values word_is ◌then◌ require
returns c = rw (lt-ltb _ _ c.if-plan-at.false, c.if-not-ok.false)
