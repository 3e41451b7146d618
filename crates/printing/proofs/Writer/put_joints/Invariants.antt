-- `Writer::put_joints` meets its contract: after j turns the first j lines are written. Assumes nothing.
use Rattle.std.proofs.Common.{◌*◌}
use Rattle.printing.specs.Written.{WroteUpTo, joint_lines}
use Rattle.printing.specs.Sizes.{joint_size}
use Rattle.printing.proofs.Writer.put_joints.Given as goal

abbrev pub invariant-loop-j : goal.invariant-loop-j
invariant-loop-j l = WroteUpTo (joint_size * l.j) (joint_lines l.j l.output) l.initial.self l.self
