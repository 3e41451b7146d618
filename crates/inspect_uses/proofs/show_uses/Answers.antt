-- `inspect_uses::show_uses` meets its contract: the answer's line, and behind `ok` those of the marks. Assumes nothing.
use Rattle.std.proofs.Common.{length, ap, arith, rules}
use Rattle.printing.proofs.Laws.{front_written}
use Rattle.inspect_uses.proofs.Laws.{refused_shown, few, found_written}
use Rattle.inspect_uses.proofs.show_uses.Goals as goal
use Rattle.inspect_uses.proofs.show_uses.Goals.{in-Ok, in-Err}

pub put_uses-requires : goal.put_uses-requires
put_uses-requires c =
    let found = few _ _ _ c.in-Ok.ensures in
    (found.0, found.1, found.2, omega (arith, ap length c.new-w.ensures.held))

pub returns : goal.returns
returns c =
    let new = c.new-w.ensures in
    elim c.match-uses.branch [
      | in-Ok w ↦ rw w.w-is (front_written (found_written _ _ _ w.in-Ok.ensures w.put_answer.ensures.0 w.put_uses.ensures.0) new.held new.first (omega (arith, ap length new.held)) (search rules))
      | in-Err w ↦ rw w.w-is (front_written (rw (refused_shown _ _ _ w.in-Err.ensures) at w.put_answer-in-Err.ensures.0) new.held new.first (omega (arith, ap length new.held)) (search rules))
    ]
