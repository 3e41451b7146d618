-- The values before k are put.
use Rattle.std.proofs.Common.{◌≡◌}
use Rattle.model.specs.Text.{forms}
use Rattle.text.specs.Readers.{SameReader}
use Rattle.text.proofs.LineLaws.{FirstPut}
use Rattle.text.proofs.put.Reader.put_line.Given as goal

abbrev pub invariant-loop-k : goal.invariant-loop-k
invariant-loop-k l =
    let before = l.initial.self in
    (l.form-items ≡ forms l.fn.kind) × SameReader before l.self × (l.self.values ≡ before.values)
    × FirstPut l.fn.kind before.values before.progress before.plan.now before.numbers.now l.self.progress l.self.plan.now l.self.numbers.now l.k
