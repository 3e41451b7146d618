-- `report::put_wide` meets its contract: 16 hexadecimal digits are the definition's field. Assumes nothing.
use Rattle.std.proofs.Common.{arith}
use Rattle.model.proofs.Laws.Digits.{length_digits}
use Rattle.report.proofs.Laws.{wide_written}
use Rattle.report.proofs.put_wide.Goals as goal

pub returns : goal.returns
returns c =
    (wide_written _ _ (cc) c.put_field.ensures, omega (arith, length_digits, c.put_field.ensures.moved))
