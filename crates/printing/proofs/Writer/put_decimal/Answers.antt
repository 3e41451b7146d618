-- `Writer::put_decimal` meets its contract: one field is all, and has at most 20 digits. Assumes nothing.
use Rattle.std.proofs.Common.{arith}
use Rattle.std.proofs.lemmas.List.{append-nil}
use Rattle.model.specs.Program.{decimal_text, decimal_fields}
use Rattle.model.proofs.Laws.Digits.{length_digits}
use Rattle.printing.proofs.Writer.put_decimal.Goals as goal

pub returns : goal.returns
unfolding decimal_fields decimal_text
returns c =
    (rw (append-nil, ← c.places.ensures.0) c.put_field.ensures, omega (arith, length_digits, c.put_field.ensures.moved))
