-- `calls::check_calls` meets its contract. The loop's invariant: the lines passed are calls. Assumes nothing.
use Rattle.std.proofs.Common.{◌≡◌, arith, None, Some}
use Rattle.std.proofs.lemmas.Result.{err_from_is_err_and}
use Rattle.calls.specs.CallText.{call_list}
use Rattle.calls.proofs.Laws.{none_passed, line_bad, line_passed, text_left, text_ended}
use Rattle.calls.proofs.check_calls.Goals as goal

pub loop-i-init : goal.loop-i-init
loop-i-init c = none_passed _ _

pub returns-in_err-read : goal.returns-in_err-read
unfolding call_list
returns-in_err-read c =
    let p = err_from_is_err_and c.from_residual.result c.from_residual.ensures.1 in
    let none : c.call_at.result ≡ None = grind arith in
    let bad = line_bad c.loop-i.invariant c.loop-i-test.true _ c.call_at.ensures.result_value none in
    let told = rw none at c.ok_or.ensures.value in
    rw (← c.line_count-lines.ensures.0) cc (p.1, p.2, told, c.in_err-read.was, bad)

pub loop-i-preserved : goal.loop-i-preserved
loop-i-preserved c =
    let some : c.call_at.result ≡ Some c.in_ok-read.read = grind arith in
    line_passed c.loop-i.invariant c.loop-i-test.true _ c.call_at.ensures.result_value some

pub returns-then-at-text : goal.returns-then-at-text
unfolding call_list
returns-then-at-text c =
    rw (← c.line_count-lines.ensures.0) (text_left c.loop-i.invariant c.loop-i-test.false c.loop-i.auto.i-end c.if-at-text.true)

pub returns : goal.returns
unfolding call_list
returns c =
    rw (← c.line_count-lines.ensures.0) (text_ended c.loop-i.invariant c.loop-i-test.false c.loop-i.auto.i-end c.if-at-text.false)
