-- `plan::figure` meets its contract: what the check said is what the types say. Assumes nothing.
use Rattle.model.specs.Answers.{values}
use Rattle.model.proofs.Laws.Exits.{leaves, passed}
use Rattle.model.proofs.Laws.Passed.{numbers_fit}
use Rattle.layout.proofs.Laws.{is_laid}
use Rattle.plan.proofs.figure.Goals as goal

pub returns-in_err-layout-clause-answer : goal.returns-in_err-layout-clause-answer
returns-in_err-layout-clause-answer c = leaves _ _ _ _ c.from_residual.ensures.1 c.in_err-layout.ensures.answer

pub invariant_of-result : goal.invariant_of-result
invariant_of-result c = let told = c.in_ok-layout.ensures in record { laid = is_laid _ _ _ (passed _ _ told.answer) told.layout }

pub invariant_of-result-2 : goal.invariant_of-result-2
invariant_of-result-2 c = record { whole = numbers_fit _ _ (passed _ _ c.in_ok-layout.ensures.answer) }

pub returns-clause-answer : goal.returns-clause-answer
unfolding values
returns-clause-answer c = c.in_ok-layout.ensures.answer
