-- `plan::passed_plan` meets its contract: of a plan that passes no word is refused. Assumes nothing.
use Rattle.std.proofs.Common.{◌∙◌}
use Rattle.model.proofs.Laws.Exits.{never}
use Rattle.layout.proofs.Laws.{is_laid}
use Rattle.plan.proofs.Worded.{words_pass}
use Rattle.plan.proofs.passed_plan.Goals as goal

pub unreachable-requires : goal.unreachable-requires
unreachable-requires c = let told = c.in_default.ensures in never _ _ (told.answer ∙ words_pass c.requires)

pub laid_out-requires : goal.laid_out-requires
laid_out-requires c = (words_pass c.requires, c.in-Ok.ensures.transitions)

pub invariant_of-result : goal.invariant_of-result
invariant_of-result c = record { laid = is_laid _ _ _ c.requires.passed c.laid_out.ensures }
