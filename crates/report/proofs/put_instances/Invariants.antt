-- `report::put_instances` meets its contract: after n turns the first n lines are written. Assumes nothing.
use Rattle.std.proofs.Common.{◌*◌}
use Rattle.printing.specs.Written.{WroteUpTo}
use Rattle.report.specs.Report.{instance_lines}
use Rattle.report.specs.Sizes.{instance_size}
use Rattle.report.proofs.put_instances.Given as goal

abbrev pub invariant-loop-n : goal.invariant-loop-n
invariant-loop-n l = WroteUpTo (instance_size * l.n) (instance_lines l.n l.instances) l.initial.w l.w
