-- `printing::glyph` meets its contract: the table is the definition's values. Assumes nothing.
use Rattle.model.specs.Table.{table_to}
use Rattle.model.specs.Program.{glyph}
use Rattle.model.proofs.Laws.Table.{table_at}
use Rattle.printing.proofs.glyph.Goals as goal

pub returns : goal.returns
unfolding glyph table_to
returns c = table_at (λ done d. glyph d) 16 0 c.args.d c.requires
