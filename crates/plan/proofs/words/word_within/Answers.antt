-- `plan::words::word_within` meets its contract: it asks for the definition's test. Assumes nothing.
use mathlib.Core.Path.{◌∙◌}
use Rattle.plan.proofs.words.word_within.Goals as goal

pub returns : goal.returns
returns c = c.word_is.ensures ∙ rw (c.within.ensures, c.word.ensures.0)
