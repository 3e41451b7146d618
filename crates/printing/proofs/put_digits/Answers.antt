-- `printing::put_digits` meets its contract: the digits still to come complete what it asks for. Assumes nothing.
use Rattle.std.proofs.Common.{◌≡◌, ◌∙◌, arith}
use Rattle.model.specs.Program.{digits}
use Rattle.printing.proofs.Laws.{last_digit}
use Rattle.printing.proofs.put_digits.Goals as goal

pub loop-k-preserved : goal.loop-k-preserved
loop-k-preserved c = last_digit _ _ _ _ _ (omega arith) (omega arith) c.glyph.ensures ∙ c.loop-k.invariant

pub returns : goal.returns
unfolding digits
returns c =
    let e : c.loop-k.k ≡ 0 = omega arith in
    rw e at c.loop-k.invariant
