-- `Cursor::float` meets its contract. Assumes nothing.
use Rattle.std.proofs.Common.{rules, arith}
use Rattle.std.specs.Float.{binary32}
use Rattle.std.specs.Float.Ieee.{of_bits}
use Rattle.model.specs.declared.FieldForm.TheVariants.{Bits}
use Rattle.model.specs.Text.{field_in}
use Rattle.fields.proofs.Laws.{field_found}
use Rattle.calls.proofs.LineLaws.{formed, none_formed, bits_fit}
use Rattle.calls.proofs.Cursor.float.Goals as goal

pub returns-in_err-bits : goal.returns-in_err-bits
returns-in_err-bits c =
    none_formed (of_bits binary32) (c.in_err-bits.ensures (field_in Bits) (λ text at field is. field_found Bits text.now at (search rules))) c.from_residual.ensures

pub overflow_cast-bits : goal.overflow_cast-bits
overflow_cast-bits c =
    omega (arith, bits_fit (c.in_ok-bits.ensures (field_in Bits) (λ text at field is. field_found Bits text.now at (search rules))))

pub returns : goal.returns
returns c =
    formed (of_bits binary32) (c.in_ok-bits.ensures (field_in Bits) (λ text at field is. field_found Bits text.now at (search rules))) c.f32_from_bits.ensures
