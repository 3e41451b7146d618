use Rattle.text.proofs.FigureLaws.{end_stops, end_steps}
use Rattle.text.proofs.ReaderLaws.{same_self}
use Rattle.text.proofs.put.Reader.read_end.Goals as goal

pub returns-then-self : goal.returns-then-self
returns-then-self c = record { same = same_self _; step = end_stops _ _ _ _ c.if-self.true }

pub returns : goal.returns
returns c = record { same = same_self _; step = end_steps _ _ _ _ c.args.self.now.in_text c.if-self.false }
