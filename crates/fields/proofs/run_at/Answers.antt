use Rattle.std.proofs.Common.{◌≡◌, max, ◌+◌, ◌*◌, ◌^◌, ◌<◌, length, inl, refl, add-one, arith}
use Rattle.fields.proofs.Laws.{run_goes_on, run_stops, run_none, numeral_none, room, counts, stays}
use Rattle.fields.proofs.run_at.Goals as goal
use Rattle.fields.proofs.run_at.Goals.{Else-value-most}

pub returns-then-next-base : goal.returns-then-next-base
returns-then-next-base c =
    let args = c.args in
    (omega (arith, run_stops args.base args.text.now c.loop-end.end (omega arith) (omega (arith, c.digit-next.ensures)), c.loop-end.invariant.1), c.loop-end.invariant.2)

pub returns-then-value-most : goal.returns-then-value-most
returns-then-value-most c =
    let inv = c.loop-end.invariant in
    let e = c.run_end-end.ensures in
    (omega (arith, e, inv.1), rw e (stays _ _ _ _ _ _ c.loop-end.auto.end inv.2 c.requires.0 c.if-value-most.true _))

-- what fits with the next digit
fits : (c : Else-value-most) → c.loop-end.value * c.args.base + c.digit-next.result < 2 ^ 64
fits c = room c.loop-end.value c.args.base c.digit-next.result (omega arith) (omega arith) (omega arith)

pub loop-end-preserved : goal.loop-end-preserved
loop-end-preserved c =
    let inv = c.loop-end.invariant in
    let on = run_goes_on c.args.base c.args.text.now c.loop-end.end (omega arith) (omega (arith, c.digit-next.ensures)) in
    (omega arith, rw add-one (omega (arith, on, inv.1)), counts _ _ _ _ _ _ c.loop-end.auto.end inv.2 _ (omega arith) c.digit-next.ensures)

pub returns : goal.returns
returns c =
    let args = c.args in
    let end : max args.at (length args.text.now) ≡ c.loop-end.end = omega arith in
    rw (c.max.ensures, end) (omega (arith, run_none args.base args.text.now c.loop-end.end (omega arith), c.loop-end.invariant.1), c.loop-end.invariant.2)

pub loop-end-init : goal.loop-end-init
loop-end-init c = (omega arith, refl, inl (numeral_none _ _ c.args.at))

pub overflow_mul-value : goal.overflow_mul-value
overflow_mul-value c = omega (arith, fits c)

pub overflow_add-value : goal.overflow_add-value
overflow_add-value c = omega (arith, fits c)
