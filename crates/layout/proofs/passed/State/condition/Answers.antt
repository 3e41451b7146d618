-- `layout::passed::State::condition` meets its contract: the check has seen that the transition's three words are there. Assumes nothing.
use native.Mathlib.Omega.{arith}
use Rattle.model.specs.Plan.{condition_parameter, operator, target_state}
use Rattle.layout.specs.Layout.{condition_of}
use Rattle.layout.proofs.Laws.{laid_passes, condition_found, condition_words, words}
use Rattle.layout.proofs.passed.State.condition.Goals as goal

pub returns : goal.returns
unfolding condition_parameter operator target_state condition_of
returns c =
    rw (c.from.ensures, c.word_there-3.ensures.0, c.word_there-2.ensures.0, c.word_there.ensures.0, condition_found c.args.self.now.place c.args.t)

pub overflow_mul-at : goal.overflow_mul-at
overflow_mul-at c = omega (arith, condition_words c.args.self.now.place (laid_passes c.args.self.now.plan.laid) _ c.requires)

pub overflow_add-at : goal.overflow_add-at
overflow_add-at c = search words

pub word_there-requires : goal.word_there-requires
word_there-requires c = search words

pub overflow_add-at-2 : goal.overflow_add-at-2
overflow_add-at-2 c = search words

pub word_there-requires-2 : goal.word_there-requires-2
word_there-requires-2 c = search words

pub overflow_add-at-3 : goal.overflow_add-at-3
overflow_add-at-3 c = search words

pub word_there-requires-3 : goal.word_there-requires-3
word_there-requires-3 c = search words
