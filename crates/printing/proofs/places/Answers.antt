-- `printing::places` meets its contract: the greatest power of ten that is no larger says how many digits there are. Assumes nothing.
use Rattle.std.proofs.Common.{◌≤◌, ◌^◌, arith, sym}
use Rattle.std.specs.Prelude.{max}
use Rattle.printing.proofs.Laws.{places_by_power}
use Rattle.printing.proofs.places.Goals as goal

pub returns : goal.returns
returns c =
    let power = c.ilog10.ensures in
    let least : 10 ^ c.ilog10.result ≤ max c.args.n 1 = omega arith in
    (sym (places_by_power 19 _ _ (omega arith) least (omega arith)), omega arith)
