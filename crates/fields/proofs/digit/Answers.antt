-- The table has each byte's digit, as computing it shows.
use Rattle.std.proofs.Common.{arith}
use Rattle.fields.proofs.Laws.{digit_read}
use Rattle.fields.proofs.digit.Goals as goal

pub returns : goal.returns
unfolding Rattle.model.specs.Text.digit Rattle.model.specs.Check.within
returns c = digit_read _ _ _ c.from-2.ensures c.from.ensures (omega arith)
