-- `layout::passed::Plan::sample_count` meets its contract: the check has seen that the word is there. Assumes nothing.
use mathlib.Core.Path.{◌≡◌, ap, ◌∙◌}
use Rattle.model.specs.Plan.{word, sample_count_at, sample_count}
use Rattle.model.proofs.Laws.Passed.{sample_count_there}
use Rattle.layout.proofs.Laws.{laid_passes, joints_found, clip_small}
use Rattle.layout.proofs.passed.Plan.sample_count.Goals as goal
use Rattle.layout.proofs.passed.Plan.sample_count.Goals.{After-sample_count_at}

pub sample_count_at-requires : goal.sample_count_at-requires
sample_count_at-requires c = let p = c.args.self.now.laid in clip_small (laid_passes p) p.found c.requires

place : (c : After-sample_count_at) → c.sample_count_at.result ≡ sample_count_at c.args.self.now.words.now c.args.c
place c = c.sample_count_at.ensures _ (joints_found _ c.args.self.now.laid.found)

pub word_there-requires : goal.word_there-requires
word_there-requires c = rw (place c) (sample_count_there _ _ c.args.self.now.laid.passed _ c.requires)

pub returns : goal.returns
unfolding sample_count
returns c = c.word_there.ensures.0 ∙ ap (word _) (place (goal.at.returns c).After-sample_count_at)
