-- `report::put_instance` meets its contract: a word, a decimal, three floats and LF. Assumes nothing.
use Rattle.std.proofs.Common.{◌∷◌, [], arith}
use Rattle.printing.proofs.Laws.{short_index, more_written, floats_written}
use Rattle.report.specs.Report.{instance_line}
use Rattle.report.proofs.put_instance.Goals as goal

pub returns : goal.returns
unfolding instance_line
returns c =
    let i = c.instance_at-instance in
    let two = floats_written (_ ∷ []) (_ ∷ []) c.put_bits.ensures.0 c.put_bits-2.ensures.0 in
    let three = floats_written (_ ∷ _ ∷ []) (_ ∷ []) two c.put_bits-3.ensures.0 in
    let line = more_written (more_written (more_written c.put_bytes.ensures c.put_decimal.ensures.0) three) c.put_bytes-2.ensures in
    (rw i.ensures at line, omega (arith, short_index c.args.n))
