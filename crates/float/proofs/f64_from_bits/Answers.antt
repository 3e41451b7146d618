-- `float::f64_from_bits` meets its contract: the patterns above the infinity's are the NaNs. Assumes nothing.
use lib.Ieee.{binary64}
use Rattle.float.proofs.Patterns.{above_infinity, up_to_infinity}
use Rattle.float.proofs.f64_from_bits.Goals as goal

pub float_from_bits-result : goal.float_from_bits-result
float_from_bits-result c = up_to_infinity binary64 _ c.if-b-gt-INFINITY_64.false

pub returns-then-b-gt-INFINITY_64 : goal.returns-then-b-gt-INFINITY_64
returns-then-b-gt-INFINITY_64 c = above_infinity binary64 _ c.if-b-gt-INFINITY_64.true
