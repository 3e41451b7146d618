-- The step of the lines so far.
use Rattle.model.specs.Text.{read_line}
use Rattle.text.proofs.ReaderLaws.{Passed}
use Rattle.text.proofs.put.Reader.read_lines.Given as goal

abbrev pub invariant-loop : goal.invariant-loop
invariant-loop l = Passed (read_line l.fn.kind) l.initial.self l.self l.counter
