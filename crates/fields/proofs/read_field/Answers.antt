-- The bits of a 32-bit float are a run of eight digits.
use Rattle.std.proofs.Common.{sym, ◌∙◌}
use Rattle.fields.proofs.Laws.{bits_form}
use Rattle.fields.proofs.read_field.Goals as goal

pub returns-in-Bits : goal.returns-in-Bits
returns-in-Bits c = rw c.in-Bits.is (c.bits_at.ensures ∙ sym (bits_form _ _))
