-- `plan::nodes::check_node` meets its contract: the kind, then the words of that kind. Assumes nothing.
use mathlib.Core.Path.{◌∙◌}
use Rattle.layout.proofs.NodeLaws.{clip_word, blend_word}
use Rattle.plan.specs.Parts.{check_node_at}
use Rattle.model.proofs.Laws.Exits.{leaves, more, goes}
use Rattle.plan.proofs.NodeLaws.{clip_goes, blend_goes}
use Rattle.plan.proofs.nodes.check_node.Goals as goal

pub returns-in_err-word_up_to : goal.returns-in_err-word_up_to
unfolding check_node_at
returns-in_err-word_up_to c = leaves _ _ _ _ c.from_residual.ensures.1 (more _ _ _ _ c.in_err-word_up_to.ensures)

pub returns-in-Clip : goal.returns-in-Clip
returns-in-Clip c =
    goes _ _ _ _ c.in_ok-word_up_to.ensures c.check_clip_node.ensures ∙ clip_goes _ _ _ _ (rw (← c.word.ensures.0) (clip_word _ _ c.from.ensures c.in-Clip.is))

pub returns-in-Lerp : goal.returns-in-Lerp
returns-in-Lerp c =
    goes _ _ _ _ c.in_ok-word_up_to.ensures c.check_blend_node.ensures ∙ blend_goes _ _ _ _ (rw (← c.word.ensures.0) (blend_word _ _ c.from.ensures c.in-Lerp.is))
