-- `float::rounded_pattern` meets its contract, a range of exponents at a time; a rounded significand has 25 digits at most. Assumes nothing.
use Rattle.std.proofs.Common.{◌+◌, ◌^◌, arith}
use Rattle.float.proofs.Rounding.{closest_le}
use Rattle.float.proofs.Narrowing.{rounds_normal, rounds_low, rounds_zero}
use Rattle.float.proofs.rounded_pattern.Goals as goal

pub overflow_add-result : goal.overflow_add-result
overflow_add-result c = omega (arith, c.rounding_shift.ensures, closest_le (2 ^ 52 + c.args.fraction) (2 ^ 29))

pub returns-then-exponent-ge-LEAST_EXPONENT : goal.returns-then-exponent-ge-LEAST_EXPONENT
returns-then-exponent-ge-LEAST_EXPONENT c s =
    rw c.rounding_shift.ensures (rounds_normal c.args.exponent c.args.fraction c.if-exponent-ge-LEAST_EXPONENT.true c.requires.0 c.requires.1 s)

pub returns-then-exponent-ge-HALF_SUBNORMAL_EXPONENT : goal.returns-then-exponent-ge-HALF_SUBNORMAL_EXPONENT
returns-then-exponent-ge-HALF_SUBNORMAL_EXPONENT c s =
    rw c.rounding_shift-then-exponent-ge-HALF_SUBNORMAL_EXPONENT.ensures (rounds_low c.args.exponent c.args.fraction c.if-exponent-ge-HALF_SUBNORMAL_EXPONENT.true c.if-exponent-ge-LEAST_EXPONENT.false c.requires.1 s)

pub returns-else-exponent-ge-HALF_SUBNORMAL_EXPONENT : goal.returns-else-exponent-ge-HALF_SUBNORMAL_EXPONENT
returns-else-exponent-ge-HALF_SUBNORMAL_EXPONENT c s =
    rounds_zero c.args.exponent c.args.fraction c.if-exponent-ge-HALF_SUBNORMAL_EXPONENT.false c.requires.1 s
