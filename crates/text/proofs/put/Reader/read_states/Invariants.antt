-- The step of the states so far.
use Rattle.model.specs.Text.{read_state}
use Rattle.text.proofs.ReaderLaws.{Passed}
use Rattle.text.proofs.put.Reader.read_states.Given as goal

abbrev pub invariant-loop : goal.invariant-loop
invariant-loop l = Passed read_state l.initial.self l.self l.counter
