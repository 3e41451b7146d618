-- `plan::check` meets its contract: refused words are the answer, and for a plan whose words pass the lengths are. Assumes nothing.
use Rattle.model.proofs.Laws.Exits.{passed}
use Rattle.plan.proofs.Worded.{refused_by_words, left_to_lengths}
use Rattle.plan.proofs.check.Goals as goal

pub returns-in_err-words : goal.returns-in_err-words
returns-in_err-words c = refused_by_words _ _ _ _ _ c.from_residual.ensures.1 c.in_err-words.ensures.answer

pub check_lengths-requires : goal.check_lengths-requires
check_lengths-requires c = let w = c.in_ok-words.ensures in (passed _ _ w.answer, w.end, w.transitions)

pub returns : goal.returns
returns c = left_to_lengths _ _ _ (passed _ _ c.in_ok-words.ensures.answer) c.check_lengths.ensures
