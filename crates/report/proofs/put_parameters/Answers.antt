-- `report::put_parameters` meets its contract: a word, the floats and LF, each behind the other. Assumes nothing.
use Rattle.std.proofs.Common.{arith}
use Rattle.printing.proofs.Laws.{more_written}
use Rattle.report.specs.Report.{parameters_line}
use Rattle.report.proofs.put_parameters.Goals as goal

pub returns : goal.returns
unfolding parameters_line
returns c = (more_written (more_written c.put_bytes.ensures c.put_floats.ensures.0) c.put_bytes-2.ensures, omega arith)
