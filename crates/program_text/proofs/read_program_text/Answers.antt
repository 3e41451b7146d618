-- `program_text::read_program_text` meets its contract: a long text is refused, another read. Assumes nothing.
use native.Mathlib.Omega.{arith}
use mathlib.Core.Path.{refl}
use borrow.Author.Rules.{rules}
use Rattle.model.specs.Text.{text_values}
use Rattle.program_text.proofs.Laws.{long_refused, short_read}
use Rattle.program_text.proofs.read_program_text.Goals as goal

pub returns-then-text-gt-MAX_TEXT : goal.returns-then-text-gt-MAX_TEXT
unfolding text_values
returns-then-text-gt-MAX_TEXT c = rw c.at.ensures (long_refused _ _ _ _ (omega arith) refl)

pub returns : goal.returns
returns c = short_read _ _ _ _ _ _ (omega arith) (search rules) (search rules) c.read.ensures
