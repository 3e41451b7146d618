-- `layout::passed::Plan::is_stopping` meets its contract: the check has seen that the word is there. Assumes nothing.
use borrow.Author.Rules.{rules}
use mathlib.Core.Path.{◌≡◌}
use Rattle.model.specs.Plan.{sample_count_at, ending_at, ending, is_stopping}
use Rattle.model.proofs.Laws.Passed.{ending_there}
use Rattle.layout.proofs.Laws.{laid_passes, joints_found, clip_small, place_fits}
use Rattle.layout.proofs.passed.Plan.is_stopping.Goals as goal
use Rattle.layout.proofs.passed.Plan.is_stopping.Goals.{After-sample_count_at}

pub sample_count_at-requires : goal.sample_count_at-requires
sample_count_at-requires c = let p = c.args.self.now.laid in clip_small (laid_passes p) p.found c.requires

place : (c : After-sample_count_at) → c.sample_count_at.result ≡ sample_count_at c.args.self.now.words.now c.args.c
place c = c.sample_count_at.ensures _ (joints_found _ c.args.self.now.laid.found)

pub overflow_add-sample_count_at : goal.overflow_add-sample_count_at
unfolding ending_at
overflow_add-sample_count_at c = place_fits c.args.self.now.words.now _ (search rules) (rw (place c) (ending_there _ _ c.args.self.now.laid.passed _ c.requires))

pub word_there-requires : goal.word_there-requires
unfolding ending_at
word_there-requires c = rw (place c) (ending_there _ _ c.args.self.now.laid.passed _ c.requires)

pub returns : goal.returns
unfolding is_stopping ending ending_at
returns c = rw (c.word_there.ensures.0, place (goal.at.returns c).After-sample_count_at)
