-- `float::narrow` meets its contract: the case's pattern under the sign is the narrowed value's, by `narrow_bits`. Assumes nothing.
use Rattle.std.proofs.Common.{◌≡◌, ◌^◌, ◌<◌, leb, sym, ◌∙◌, zero-add, arith, le-leb}
use lib.Ieee.{binary64, to_bits}
use denote.Floats.{passes}
use borrow.Author.Tests.{lt-leb}
use Rattle.model.specs.Numbers.{narrow}
use Rattle.model.specs.Narrowing.{FallsIn, with_sign}
use Rattle.float.proofs.Narrowing.{narrow_bits, pattern_below}
use Rattle.float.proofs.narrow.Goals as goal
use Rattle.float.proofs.narrow.Goals.{After-case_pattern-n}

narrowed : (c : After-case_pattern-n) → narrow c.args.x ≡ with_sign (leb (2 ^ 63) c.f64_to_bits-b.result) c.case_pattern-n.result
narrowed c =
    let x = c.args.x in
    let e = c.f64_to_bits-b.ensures in
    let falls : FallsIn (to_bits binary64 x) c.narrow_case.result = rw (← e) c.narrow_case.ensures in
    rw (e, c.case_pattern-n.ensures) (narrow_bits x c.narrow_case.result (passes _ c.well_formed.0.1) falls)

below : (c : After-case_pattern-n) → c.case_pattern-n.result < 2 ^ 31
below c = rw c.case_pattern-n.ensures (pattern_below c.f64_to_bits-b.result c.narrow_case.result c.narrow_case.ensures)

pub overflow_add-n : goal.overflow_add-n
overflow_add-n c = omega (arith, below (goal.at.overflow_add-n c).After-case_pattern-n)

pub returns-then-b-lt-SIGN_64 : goal.returns-then-b-lt-SIGN_64
returns-then-b-lt-SIGN_64 c = c.f32_from_bits.ensures ∙ sym (rw (lt-leb (2 ^ 63) _ c.if-b-lt-SIGN_64.true, zero-add) at (narrowed (goal.at.returns-then-b-lt-SIGN_64 c).After-case_pattern-n))

pub returns-else-b-lt-SIGN_64 : goal.returns-else-b-lt-SIGN_64
returns-else-b-lt-SIGN_64 c = c.f32_from_bits-else-b-lt-SIGN_64.ensures ∙ sym (rw (le-leb (2 ^ 63) _ c.if-b-lt-SIGN_64.false) at (narrowed (goal.at.returns-else-b-lt-SIGN_64 c).After-case_pattern-n))
