-- `plan::words::check_clip` meets its contract: two words in the definition's order. Assumes nothing.
use native.Mathlib.Omega.{arith}
use mathlib.Core.Path.{◌≡◌, ◌∙◌}
use Rattle.model.specs.Plan.{sample_count_at, sample_count, ending_at, ending}
use Rattle.model.specs.Check.{check_clip}
use Rattle.model.proofs.Laws.Exits.{leaves, more, goes}
use Rattle.plan.proofs.words.check_clip.Goals as goal
use Rattle.plan.proofs.words.check_clip.Goals.{After-sample_count_at-at}

-- the place of the sample count, for the plan that has so many joints
place : (c : After-sample_count_at-at) → c.sample_count_at-at.result ≡ sample_count_at c.args.plan.now c.args.c
place c = c.sample_count_at-at.ensures _ c.requires.0

pub overflow_add-ending_at : goal.overflow_add-ending_at
unfolding sample_count_at
overflow_add-ending_at c = omega (arith, place c, c.requires.0, c.requires.1, c.requires.2)

pub returns-in_err-word_within : goal.returns-in_err-word_within
unfolding check_clip sample_count
returns-in_err-word_within c =
    leaves _ _ _ _ c.from_residual.ensures.1 (more _ _ _ _ (c.in_err-word_within.ensures ∙ rw (place (goal.at.returns-in_err-word_within c).After-sample_count_at-at)))

pub returns : goal.returns
unfolding check_clip sample_count ending ending_at
returns c =
    let at = place (goal.at.returns c).After-sample_count_at-at in
    goes _ _ _ _ (c.in_ok-word_within.ensures ∙ rw at) (c.word_within-2.ensures ∙ rw at)
