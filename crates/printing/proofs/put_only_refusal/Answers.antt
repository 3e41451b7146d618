-- `printing::put_only_refusal` meets its contract: a writer's text is the front of its slice. Assumes nothing.
use Rattle.std.proofs.Common.{arith, rules}
use Rattle.printing.proofs.Laws.{front_written}
use Rattle.printing.proofs.put_only_refusal.Goals as goal

pub returns : goal.returns
returns c =
    let new = c.new-w.ensures in
    front_written c.put_refusal.ensures.0 new.held new.first (omega (arith, c.put_refusal.ensures.1, new.first, c.requires)) (search rules)
