-- `float::f64_to_bits` meets its contract: only a NaN differs from itself. Assumes nothing.
use lib.Ieee.{binary64}
use Rattle.float.proofs.Patterns.{differs_is_nan, equals_is_none}
use Rattle.float.proofs.f64_to_bits.Goals as goal

pub float_to_bits-result : goal.float_to_bits-result
float_to_bits-result c = equals_is_none _ c.if-x.false

pub returns-then-x : goal.returns-then-x
returns-then-x c = differs_is_nan binary64 _ c.if-x.true
