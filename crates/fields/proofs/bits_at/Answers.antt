use Rattle.std.proofs.Common.{◌∙◌, arith}
use Rattle.fields.proofs.Laws.{bits_read}
use Rattle.fields.proofs.bits_at.Goals as goal

pub returns : goal.returns
returns c =
    let e = c.run_at-run.ensures in
    c.then_some.ensures ∙ bits_read _ _ _ _ _ e.0 e.1 (omega (arith, c.requires))
