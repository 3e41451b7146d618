use Rattle.std.proofs.Common.{◌≡◌, max, length, add-one, arith}
use Rattle.fields.proofs.Laws.{run_goes_on, run_stops, run_none}
use Rattle.fields.proofs.run_end.Goals as goal

pub returns-then-digit-base : goal.returns-then-digit-base
returns-then-digit-base c =
    let args = c.args in
    omega (arith, run_stops args.base args.text.now c.loop-end.end (omega arith) (omega (arith, c.digit.ensures)), c.loop-end.invariant.1)

pub loop-end-preserved : goal.loop-end-preserved
loop-end-preserved c =
    let on = run_goes_on c.args.base c.args.text.now c.loop-end.end (omega arith) (omega (arith, c.digit.ensures)) in
    (omega arith, rw add-one (omega (arith, on, c.loop-end.invariant.1)))

pub returns : goal.returns
returns c =
    let args = c.args in
    let end : max args.at (length args.text.now) ≡ c.loop-end.end = omega arith in
    rw (c.max.ensures, end) (omega (arith, run_none args.base args.text.now c.loop-end.end (omega arith), c.loop-end.invariant.1))
