-- `float::narrow_case` meets its contract: what its tests found is what the case's predicate asks. Assumes nothing.
use Rattle.float.proofs.Narrowing.{falls_nan, falls_infinite, falls_too_large, falls_normal, falls_subnormal, falls_zero}
use Rattle.float.proofs.narrow_case.Goals as goal

pub returns-then-fraction-ne0 : goal.returns-then-fraction-ne0
returns-then-fraction-ne0 c = falls_nan c.args.b c.if-exponent-eq-ONES_64.true c.if-fraction-ne0.true

pub returns-then-exponent-eq-ONES_64 : goal.returns-then-exponent-eq-ONES_64
returns-then-exponent-eq-ONES_64 c = falls_infinite c.args.b c.if-exponent-eq-ONES_64.true c.if-fraction-ne0.false

pub returns-then-rounded-ge-LEAST_TOO_LARGE : goal.returns-then-rounded-ge-LEAST_TOO_LARGE
returns-then-rounded-ge-LEAST_TOO_LARGE c =
    falls_too_large c.args.b c.rounded_pattern-rounded.result c.if-exponent-eq-ONES_64.false c.rounded_pattern-rounded.ensures c.if-rounded-ge-LEAST_TOO_LARGE.true

pub returns-then-rounded-ge-LEAST_NORMAL : goal.returns-then-rounded-ge-LEAST_NORMAL
returns-then-rounded-ge-LEAST_NORMAL c =
    falls_normal c.args.b c.rounded_pattern-rounded.result c.if-exponent-eq-ONES_64.false c.rounded_pattern-rounded.ensures c.if-rounded-ge-LEAST_TOO_LARGE.false c.if-rounded-ge-LEAST_NORMAL.true

pub returns-then-rounded-ge-LEAST_SUBNORMAL : goal.returns-then-rounded-ge-LEAST_SUBNORMAL
returns-then-rounded-ge-LEAST_SUBNORMAL c =
    falls_subnormal c.args.b c.rounded_pattern-rounded.result c.if-exponent-eq-ONES_64.false c.rounded_pattern-rounded.ensures c.if-rounded-ge-LEAST_NORMAL.false c.if-rounded-ge-LEAST_SUBNORMAL.true

pub returns : goal.returns
returns c =
    falls_zero c.args.b c.rounded_pattern-rounded.result c.if-exponent-eq-ONES_64.false c.rounded_pattern-rounded.ensures c.if-rounded-ge-LEAST_SUBNORMAL.false
