-- `Cursor::decimal` meets its contract. Assumes nothing.
use Rattle.std.proofs.Common.{rules}
use Rattle.model.specs.declared.FieldForm.TheVariants.{Decimal}
use Rattle.model.specs.Text.{max_word, field_in}
use Rattle.fields.proofs.Laws.{field_found}
use Rattle.calls.proofs.Cursor.decimal.Goals as goal

pub returns : goal.returns
returns c = c.field.ensures (field_in (Decimal max_word)) (λ text at field is. field_found (Decimal max_word) text.now at (search rules))
