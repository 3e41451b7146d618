use Rattle.std.proofs.Common.{refl, sym}
use Rattle.fields.specs.Found.{found}
use Rattle.text.proofs.lines.Fields.next.Goals as goal

pub returns-in_err-field-clause-step : goal.returns-in_err-field-clause-step
unfolding found
returns-in_err-field-clause-step c = rw c.from_residual.ensures (refl, sym c.in_err-field.ensures)

pub returns-clause-step : goal.returns-clause-step
unfolding found
returns-clause-step c = sym c.in_ok-field.ensures
