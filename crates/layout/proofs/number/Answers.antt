-- `layout::number` meets its contract: past the end `get_or` gives its default, and 0 / 0 is NaN. Assumes nothing.
use native.Mathlib.Omega.{arith}
use lib.Ieee.{nan, of_bits, div}
use Rattle.layout.proofs.number.Goals as goal

pub returns : goal.returns
unfolding of_bits div
returns c = rw (c.unwrap_or.ensures, c.copied.ensures) (c.get.ensures.lookup.4 (omega arith) nan)
