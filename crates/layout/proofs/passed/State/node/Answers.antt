-- `layout::passed::State::node` meets its contract: the check has seen that the node's four words are there. Assumes nothing.
use native.Mathlib.Omega.{arith}
use Rattle.model.specs.Plan.{kind, input_a, input_b, node_parameter}
use Rattle.layout.specs.Layout.{node_of}
use Rattle.layout.proofs.Laws.{laid_passes, node_found, node_words, words}
use Rattle.layout.proofs.passed.State.node.Goals as goal

pub returns : goal.returns
unfolding kind input_a input_b node_parameter node_of
returns c =
    rw (c.from.ensures, c.word_there-4.ensures.0, c.word_there-3.ensures.0, c.word_there-2.ensures.0, c.word_there.ensures.0, node_found c.args.self.now.place c.args.i)

pub overflow_mul-at : goal.overflow_mul-at
overflow_mul-at c = omega (arith, node_words c.args.self.now.place (laid_passes c.args.self.now.plan.laid) _ c.requires)

pub overflow_add-at : goal.overflow_add-at
overflow_add-at c = search words

pub word_there-requires : goal.word_there-requires
word_there-requires c = search words

pub overflow_add-at-2 : goal.overflow_add-at-2
overflow_add-at-2 c = search words

pub word_there-requires-2 : goal.word_there-requires-2
word_there-requires-2 c = search words

pub overflow_add-at-3 : goal.overflow_add-at-3
overflow_add-at-3 c = search words

pub word_there-requires-3 : goal.word_there-requires-3
word_there-requires-3 c = search words

pub overflow_add-at-4 : goal.overflow_add-at-4
overflow_add-at-4 c = search words

pub word_there-requires-4 : goal.word_there-requires-4
word_there-requires-4 c = search words
