use Rattle.std.proofs.Common.{sym, ◌∙◌}
use Rattle.fields.specs.Found.{found}
use Rattle.fields.proofs.Laws.{field_found}
use Rattle.text.proofs.FieldLaws.{no_comma, comma_there}
use Rattle.text.proofs.lines.field_at.Goals as goal

pub returns-then-byte-ne44 : goal.returns-then-byte-ne44
unfolding found
returns-then-byte-ne44 c = let a = c.args in sym (no_comma _ a.text.now a.at c.byte.ensures c.if-byte-ne44.true)

pub returns : goal.returns
returns c = let a = c.args in field_found _ _ _ c.read_field.ensures ∙ sym (comma_there _ a.text.now a.at c.byte.ensures c.if-byte-ne44.false)
