-- `blend_tree::StateAt::plays_samples` meets its contract: a clip node names a clip that the plan has. Assumes nothing.
use Rattle.layout.proofs.NodeLaws.{is_clip_lem, clip_inside}
use Rattle.blend_tree.proofs.NodeLaws.{node_read}
use Rattle.blend_tree.proofs.SynchronizeLaws.{plays_nothing, plays_told}
use Rattle.blend_tree.proofs.StateAt.plays_samples.Goals as goal

pub sample_count-requires : goal.sample_count-requires
sample_count-requires c =
    let e = c.node-words.ensures in
    clip_inside (node_read c.args.self.now c.requires e) (is_clip_lem _ _ _ e c.in-Clip.is)

pub returns-in-Clip : goal.returns-in-Clip
returns-in-Clip c = plays_told _ _ _ c.node-words.ensures c.in-Clip.is c.sample_count.ensures

pub returns-in_default : goal.returns-in_default
returns-in_default c = plays_nothing _ _ _ c.node-words.ensures c.in_default.not-Clip
