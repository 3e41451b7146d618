-- `Writer::put_floats` meets its contract: after k turns the first k floats are written. Assumes nothing.
use Rattle.std.proofs.Common.{◌*◌, take}
use Rattle.model.specs.Program.{number_bytes}
use Rattle.printing.specs.Written.{WroteExactly, float_fields}
use Rattle.printing.proofs.Writer.put_floats.Given as goal

abbrev pub invariant-loop-x : goal.invariant-loop-x
invariant-loop-x l =
    WroteExactly (number_bytes * l.x-index) (float_fields (take l.x-index l.floats)) l.initial.self l.self
