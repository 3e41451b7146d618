-- `transitions::step` meets its contract: by what the player's transition is. Assumes nothing.
use mathlib.Core.Path.{sym, ◌∙◌}
use Rattle.transitions.proofs.Laws.{winner_inside, searched, ended, goes_on}
use Rattle.transitions.proofs.step.Goals as goal

pub started_by-requires : goal.started_by-requires
started_by-requires c =
    winner_inside _ _ _ _ c.args.state.now.place _ c.first_passing-won.ensures

pub returns-in-Idle : goal.returns-in-Idle
returns-in-Idle c =
    searched _ _ _ _ _ _ _ c.first_passing-won.ensures _ c.started_by.ensures c.in-Idle.is

pub returns-in-Running : goal.returns-in-Running
returns-in-Running c = ended _ _ _ _ _ _ _ _ _ c.in-Running.is (sym c.is_ended.ensures ∙ c.if-is_ended.true)

pub returns-in-Running-2 : goal.returns-in-Running-2
returns-in-Running-2 c = goes_on _ _ _ _ _ _ _ _ _ c.in-Running.is (sym c.is_ended.ensures ∙ c.if-is_ended.false)
