-- `plan::words::check_header` meets its contract: five words in the definition's order, the first refusal wins. Assumes nothing.
use Rattle.model.specs.Plan.{joint_count, clip_count, parameter_count, state_count, initial_state}
use Rattle.model.specs.Check.{check_header}
use Rattle.model.proofs.Laws.Exits.{leaves, more, goes}
use Rattle.plan.proofs.words.check_header.Goals as goal

pub returns-in_err-word_within : goal.returns-in_err-word_within
unfolding check_header joint_count
returns-in_err-word_within c =
    leaves _ _ _ _ c.from_residual.ensures.1 (more _ _ _ _ (more _ _ _ _ (more _ _ _ _ (more _ _ _ _ c.in_err-word_within.ensures))))

pub returns-in_err-word_within-2 : goal.returns-in_err-word_within-2
unfolding check_header joint_count clip_count
returns-in_err-word_within-2 c =
    leaves _ _ _ _ c.from_residual-in_err-word_within-2.ensures.1 (more _ _ _ _ (more _ _ _ _ (more _ _ _ _ (goes _ _ _ _ c.in_ok-word_within.ensures c.in_err-word_within-2.ensures))))

pub returns-in_err-word_up_to : goal.returns-in_err-word_up_to
unfolding check_header joint_count clip_count parameter_count
returns-in_err-word_up_to c =
    let two = goes _ _ _ _ c.in_ok-word_within.ensures c.in_ok-word_within-2.ensures in
    leaves _ _ _ _ c.from_residual-in_err-word_up_to.ensures.1 (more _ _ _ _ (more _ _ _ _ (goes _ _ _ _ two c.in_err-word_up_to.ensures)))

pub returns-in_err-word_within-3 : goal.returns-in_err-word_within-3
unfolding check_header joint_count clip_count parameter_count state_count
returns-in_err-word_within-3 c =
    let three = goes _ _ _ _ (goes _ _ _ _ c.in_ok-word_within.ensures c.in_ok-word_within-2.ensures) c.in_ok-word_up_to.ensures in
    leaves _ _ _ _ c.from_residual-in_err-word_within-3.ensures.1 (more _ _ _ _ (goes _ _ _ _ three c.in_err-word_within-3.ensures))

pub returns : goal.returns
unfolding check_header joint_count clip_count parameter_count state_count initial_state
returns c =
    let three = goes _ _ _ _ (goes _ _ _ _ c.in_ok-word_within.ensures c.in_ok-word_within-2.ensures) c.in_ok-word_up_to.ensures in
    goes _ _ _ _ (goes _ _ _ _ three c.in_ok-word_within-3.ensures) (rw c.word.ensures.0 at c.word_below.ensures)
