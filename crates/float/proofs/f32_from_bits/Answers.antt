-- `float::f32_from_bits` meets its contract: the patterns above the infinity's are the NaNs. Assumes nothing.
use lib.Ieee.{binary32}
use Rattle.float.proofs.Patterns.{above_infinity, up_to_infinity}
use Rattle.float.proofs.f32_from_bits.Goals as goal

pub float_from_bits-result : goal.float_from_bits-result
float_from_bits-result c = up_to_infinity binary32 _ c.if-b-gt-INFINITY_32.false

pub returns-then-b-gt-INFINITY_32 : goal.returns-then-b-gt-INFINITY_32
returns-then-b-gt-INFINITY_32 c = above_infinity binary32 _ c.if-b-gt-INFINITY_32.true
