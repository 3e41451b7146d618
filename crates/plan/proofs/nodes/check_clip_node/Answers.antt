-- `plan::nodes::check_clip_node` meets its contract: the clip node's number, then three words. Assumes nothing.
use mathlib.Core.Path.{◌∙◌}
use Rattle.model.specs.Answers.{values}
use Rattle.model.proofs.Laws.Exits.{leaves, more, goes}
use Rattle.plan.proofs.NodeLaws.{clip_full, clip_words}
use Rattle.plan.proofs.nodes.check_clip_node.Goals as goal

pub returns-then-node-ge-MAX_CLIP_NODES : goal.returns-then-node-ge-MAX_CLIP_NODES
unfolding values
returns-then-node-ge-MAX_CLIP_NODES c = rw c.at.ensures (clip_full _ _ _ c.if-node-ge-MAX_CLIP_NODES.true)

pub returns-in_err-word_below : goal.returns-in_err-word_below
returns-in_err-word_below c =
    leaves _ _ _ _ c.from_residual.ensures.1 (more _ _ _ _ (more _ _ _ _ c.in_err-word_below.ensures)) ∙ clip_words _ _ _ c.if-node-ge-MAX_CLIP_NODES.false

pub returns-in_err-word_is : goal.returns-in_err-word_is
returns-in_err-word_is c =
    leaves _ _ _ _ c.from_residual-in_err-word_is.ensures.1 (more _ _ _ _ (goes _ _ _ _ c.in_ok-word_below.ensures (rw c.word.ensures.0 at c.in_err-word_is.ensures))) ∙ clip_words _ _ _ c.if-node-ge-MAX_CLIP_NODES.false

pub returns : goal.returns
returns c =
    goes _ _ _ _ (goes _ _ _ _ c.in_ok-word_below.ensures (rw c.word.ensures.0 at c.in_ok-word_is.ensures)) (rw c.word-2.ensures.0 at c.word_is-2.ensures) ∙ clip_words _ _ _ c.if-node-ge-MAX_CLIP_NODES.false
