-- `Cursor::wide_float` meets its contract. Assumes nothing.
use Rattle.std.proofs.Common.{rules}
use Rattle.std.specs.Float.{binary64}
use Rattle.std.specs.Float.Ieee.{of_bits}
use Rattle.fields.specs.Wide.{wide_bits_in}
use Rattle.fields.proofs.Laws.{wide_found}
use Rattle.calls.proofs.LineLaws.{formed, none_formed}
use Rattle.calls.proofs.Cursor.wide_float.Goals as goal

pub returns-in_err-bits : goal.returns-in_err-bits
returns-in_err-bits c =
    none_formed (of_bits binary64) (c.in_err-bits.ensures wide_bits_in (λ text at field is. wide_found text.now at (search rules))) c.from_residual.ensures

pub returns : goal.returns
returns c =
    formed (of_bits binary64) (c.in_ok-bits.ensures wide_bits_in (λ text at field is. wide_found text.now at (search rules))) c.f64_from_bits.ensures
