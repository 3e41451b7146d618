-- `plan::states::check_transition` meets its contract: three words in the definition's order. Assumes nothing.
use Rattle.model.proofs.Laws.Exits.{leaves, more, goes}
use Rattle.plan.specs.Parts.{check_transition_at}
use Rattle.plan.proofs.states.check_transition.Goals as goal

pub returns-in_err-word_below : goal.returns-in_err-word_below
unfolding check_transition_at
returns-in_err-word_below c = leaves _ _ _ _ c.from_residual.ensures.1 (more _ _ _ _ (more _ _ _ _ c.in_err-word_below.ensures))

pub returns-in_err-word_up_to : goal.returns-in_err-word_up_to
unfolding check_transition_at
returns-in_err-word_up_to c =
    leaves _ _ _ _ c.from_residual-in_err-word_up_to.ensures.1 (more _ _ _ _ (goes _ _ _ _ c.in_ok-word_below.ensures c.in_err-word_up_to.ensures))

pub returns : goal.returns
unfolding check_transition_at
returns c = goes _ _ _ _ (goes _ _ _ _ c.in_ok-word_below.ensures c.in_ok-word_up_to.ensures) c.word_below-2.ensures
