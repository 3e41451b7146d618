-- `report::put_answer` meets its contract: each answer has its line. Assumes nothing.
use Rattle.std.proofs.Common.{arith}
use Rattle.model.specs.Answers.{values}
use Rattle.report.specs.Report.{answer_line}
use Rattle.report.proofs.put_answer.Goals as goal

pub returns-in-Ok : goal.returns-in-Ok
unfolding values answer_line
returns-in-Ok c = (rw c.in-Ok.is c.put_bytes.ensures, omega arith)

pub returns-in-Err : goal.returns-in-Err
unfolding values answer_line
returns-in-Err c = rw c.in-Err.is c.put_refusal.ensures
