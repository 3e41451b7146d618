-- `replay_core::finish` meets its contract: the parameters, then the instances. Assumes nothing.
use Rattle.std.proofs.Common.{refl, arith}
use Rattle.printing.proofs.Laws.{more_written, front_written}
use Rattle.report.specs.Report.{end_text}
use Rattle.replay_core.proofs.finish.Goals as goal

pub returns : goal.returns
unfolding end_text
returns c = front_written (more_written c.put_parameters.ensures.0 c.put_instances.ensures.0) c.new-w.ensures.held c.new-w.ensures.first (omega arith) refl
