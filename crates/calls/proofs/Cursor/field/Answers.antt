-- `Cursor::field` meets its contract: the comma, and the field behind it. Assumes nothing.
use Rattle.calls.proofs.LineLaws.{no_field_stepped, field_stepped, found_none, found_some}
use Rattle.calls.proofs.Cursor.field.Goals as goal

pub returns-then-not-skip : goal.returns-then-not-skip
returns-then-not-skip g c = λ parse reads. no_field_stepped parse c.if-not-skip.ensures

pub returns-in_err-field : goal.returns-in_err-field
returns-in_err-field g c = λ parse reads. rw c.from_residual.ensures (field_stepped parse c.if-not-skip.ensures (reads _ _ _ c.in_err-field.ensures) (found_none _))

pub returns : goal.returns
returns g c = λ parse reads. field_stepped parse c.if-not-skip.ensures (reads _ _ _ c.in_ok-field.ensures) (found_some _ c.in_ok-field.field)
