-- `transitions::first_passing` meets its contract. Invariant: what wins from transition t on wins from the first on. Assumes nothing.
use mathlib.Core.Path.{sym, ◌∙◌}
use native.Mathlib.Omega.{arith}
use Rattle.model.specs.Controller.{winner}
use Rattle.layout.proofs.Laws.{transitions_counted}
use Rattle.transitions.proofs.Laws.{tries, none_left}
use Rattle.transitions.proofs.first_passing.Goals as goal

pub loop-t-preserved : goal.loop-t-preserved
loop-t-preserved c =
    (omega arith, c.loop-t.invariant.1 ∙ tries _ _ _ _ _ _ c.if-t-transitions.false ∙ rw (← c.condition_holds.ensures, c.if-condition_holds.false))

pub returns-then-t-transitions : goal.returns-then-t-transitions
unfolding winner
returns-then-t-transitions c =
    sym (rw (← transitions_counted c.args.state.now.place) (c.loop-t.invariant.1 ∙ none_left _ _ _ _ _ _ c.if-t-transitions.true))

pub returns-then-condition_holds : goal.returns-then-condition_holds
unfolding winner
returns-then-condition_holds c =
    sym
    (rw (← transitions_counted c.args.state.now.place)
    (c.loop-t.invariant.1 ∙ tries _ _ _ _ _ _ c.if-t-transitions.false ∙ rw (← c.condition_holds.ensures, c.if-condition_holds.true)))
