-- `inspect_uses::put_marks` meets its contract: after k turns the first k lines are written. Assumes nothing.
use Rattle.std.proofs.Common.{◌*◌}
use Rattle.printing.specs.Written.{WroteUpTo}
use Rattle.inspect_uses.specs.UsesText.{mark_lines}
use Rattle.inspect_uses.specs.Sizes.{mark_size}
use Rattle.inspect_uses.proofs.put_marks.Given as goal

abbrev pub invariant-loop-k : goal.invariant-loop-k
invariant-loop-k l = WroteUpTo (mark_size * l.k) (mark_lines l.name l.k l.marks) l.initial.w l.w
