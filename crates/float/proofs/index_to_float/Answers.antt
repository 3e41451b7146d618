-- `float::index_to_float` meets its contract: below 2 ^ 24 the cast is exact, and above, the 24 leading digits are rounded to a pattern. Assumes nothing.
use Rattle.std.proofs.Common.{◌+◌, ◌*◌, ◌^◌, ◌<◌, refl, arith, le→leb, rules}
use lib.Ieee.{in_float}
use Rattle.model.specs.Numbers.{index_float}
use Rattle.float.proofs.Index.{shift, Leading, leading, index_pattern_lt, index_bits}
use Rattle.float.proofs.index_to_float.Goals as goal
use Rattle.float.proofs.index_to_float.Goals.{After-rounding_shift, Else-n-lt16777216}

pub int_to_float-result : goal.int_to_float-result
unfolding in_float
int_to_float-result c = le→leb c.args.n (2 ^ 24) (omega arith)

digits : (c : Else-n-lt16777216) → Leading c.args.n
digits c = leading c.args.n c.if-n-lt16777216.false (search rules)

pub overflow_sub-k : goal.overflow_sub-k
overflow_sub-k c = omega (arith, (digits c).few)

pub rounding_shift-requires : goal.rounding_shift-requires
rounding_shift-requires c = (omega (arith, (digits c).few), omega arith)

pattern_lt : (c : After-rounding_shift) → (149 + shift c.args.n) * 0x80_0000 + c.rounding_shift.result < 0x7f80_0000
pattern_lt c = rw c.rounding_shift.ensures (index_pattern_lt c.args.n (digits c.before))

pub overflow_add-k-else-n-lt16777216 : goal.overflow_add-k-else-n-lt16777216
overflow_add-k-else-n-lt16777216 c = omega (arith, pattern_lt c)

pub overflow_cast-k-else-n-lt16777216 : goal.overflow_cast-k-else-n-lt16777216
overflow_cast-k-else-n-lt16777216 c = omega (arith, pattern_lt c)

pub returns-then-n-lt16777216 : goal.returns-then-n-lt16777216
unfolding index_float
returns-then-n-lt16777216 c = refl

pub returns-else-n-lt16777216 : goal.returns-else-n-lt16777216
returns-else-n-lt16777216 c = cc (index_bits c.args.n (digits (goal.at.returns-else-n-lt16777216 c).Else-n-lt16777216))
