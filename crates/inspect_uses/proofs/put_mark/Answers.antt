-- `inspect_uses::put_mark` meets its contract: a name, two decimals and LF, each behind the other. Assumes nothing.
use Rattle.std.proofs.Common.{arith, ◌∙◌}
use Rattle.inspect_uses.proofs.Laws.{mark_digit, mark_written}
use Rattle.inspect_uses.proofs.put_mark.Goals as goal

pub returns : goal.returns
returns c =
    let a = c.args in
    (mark_written a.name.now a.k a.mark _ (c.from.ensures ∙ mark_digit a.mark) c.put_bytes.ensures c.put_decimal.ensures.0 c.put_decimal-2.ensures.0 c.put_bytes-2.ensures, omega arith)
