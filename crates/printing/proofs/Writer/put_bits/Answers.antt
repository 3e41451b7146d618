-- `Writer::put_bits` meets its contract: 8 hexadecimal digits are the definition's field. Assumes nothing.
use Rattle.std.proofs.Common.{arith}
use Rattle.model.proofs.Laws.Digits.{length_digits}
use Rattle.printing.proofs.Laws.{float_written}
use Rattle.printing.proofs.Writer.put_bits.Goals as goal

pub returns : goal.returns
returns c =
    (float_written _ _ (cc) c.put_field.ensures, omega (arith, length_digits, c.put_field.ensures.moved))
