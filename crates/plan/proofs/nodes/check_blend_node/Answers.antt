-- `plan::nodes::check_blend_node` meets its contract: three words, with the marks for the inputs so far. Assumes nothing.
use Rattle.model.proofs.Laws.Exits.{leaves, more, goes}
use Rattle.plan.specs.Parts.{check_blend_node}
use Rattle.plan.proofs.nodes.check_blend_node.Goals as goal

pub returns-in_err-word_is : goal.returns-in_err-word_is
unfolding check_blend_node
returns-in_err-word_is c =
    rw (← c.word-a.ensures.0, ← c.is_free.ensures) (leaves _ _ _ _ c.from_residual.ensures.1 (more _ _ _ _ (more _ _ _ _ c.in_err-word_is.ensures)))

pub returns-in_err-word_is-2 : goal.returns-in_err-word_is-2
unfolding check_blend_node
returns-in_err-word_is-2 c =
    rw (← c.word-a.ensures.0, ← c.word-b.ensures.0, ← c.is_free.ensures, ← c.is_free-2.ensures)
    (leaves _ _ _ _ c.from_residual-in_err-word_is-2.ensures.1 (more _ _ _ _ (goes _ _ _ _ c.in_ok-word_is.ensures c.in_err-word_is-2.ensures)))

pub returns : goal.returns
unfolding check_blend_node
returns c =
    rw (← c.word-a.ensures.0, ← c.word-b.ensures.0, ← c.is_free.ensures, ← c.is_free-2.ensures)
    (goes _ _ _ _ (goes _ _ _ _ c.in_ok-word_is.ensures c.in_ok-word_is-2.ensures) c.word_below.ensures)
