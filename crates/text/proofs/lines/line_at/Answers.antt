-- Where no name was found its length is 0, which no name has.
use Rattle.text.proofs.FieldLaws.{name_positive, malformed_found, unnamed_line, named_line}
use Rattle.text.proofs.lines.line_at.Goals as goal

pub name_at-length-requires : goal.name_at-length-requires
name_at-length-requires c = rw c.name.ensures (name_positive c.args.kind)

pub returns-then-length-eq0 : goal.returns-then-length-eq0
returns-then-length-eq0 c =
    let a = c.args in
    malformed_found _ _ (unnamed_line a.kind a.text.now a.at (rw c.name.ensures at c.name_at-length.ensures.value) c.if-length-eq0.true)

pub returns : goal.returns
returns c =
    let a = c.args in
    rw (named_line a.kind a.text.now a.at (rw c.name.ensures at c.name_at-length.ensures.value) c.if-length-eq0.false) c.fields_at.ensures
