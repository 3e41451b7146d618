-- `plan::nodes::counted` meets its contract: a clip node takes the next number, and no other does. Assumes nothing.
use Rattle.layout.proofs.NodeLaws.{clip_word, blend_word}
use Rattle.plan.specs.Parts.{clip_node_after}
use Rattle.plan.proofs.nodes.counted.Goals as goal

pub returns-in-Clip : goal.returns-in-Clip
unfolding clip_node_after
returns-in-Clip c = rw (← c.word.ensures.0, clip_word _ _ c.from.ensures c.in-Clip.is)

pub returns-in-Lerp : goal.returns-in-Lerp
unfolding clip_node_after
returns-in-Lerp c = rw (← c.word.ensures.0, blend_word _ _ c.from.ensures c.in-Lerp.is)
