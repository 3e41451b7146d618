-- `layout::word` meets its contract: past the end `get_or` gives its default, and a u16 is at most `max_word`. Assumes nothing.
use mathlib.Core.Path.{◌≡◌}
use native.Mathlib.Omega.{arith}
use lib.ListN.{get_or}
use Rattle.model.specs.Plan.{word}
use Rattle.layout.proofs.word.Goals as goal

pub returns : goal.returns
unfolding word
returns c =
    let r : c.from.result ≡ get_or c.args.plan.now c.args.i 0 = rw (c.from.ensures, c.unwrap_or.ensures, c.copied.ensures) (c.get.ensures.lookup.4 (omega arith) 0) in
    (r, omega (arith, r, c.type_inv.plan c.args.i))
