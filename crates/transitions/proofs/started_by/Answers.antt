-- `transitions::started_by` meets its contract: target and duration are the plan's and the numbers'. Assumes nothing.
use Rattle.model.specs.Controller.{started_by}
use Rattle.layout.specs.Layout.{condition_of, numbers_of}
use Rattle.transitions.proofs.started_by.Goals as goal

pub returns-in_default : goal.returns-in_default
unfolding started_by
returns-in_default c = rw c.in_default.is

pub returns : goal.returns
unfolding started_by condition_of numbers_of
returns c =
    rw (c.in-Some.is, c.numbers_at-taken.ensures _ c.args.state.now.place, c.condition.ensures)
