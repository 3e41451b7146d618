-- `blend_tree::StateAt::node_length` meets its contract: a clip node names a clip that the plan has. Assumes nothing.
use Rattle.model.specs.Clips.{duration}
use Rattle.model.specs.Tree.{node_length}
use Rattle.layout.specs.Layout.{node_of}
use Rattle.layout.proofs.NodeLaws.{clip_inside}
use Rattle.blend_tree.proofs.NodeLaws.{node_read}
use Rattle.blend_tree.proofs.StateAt.node_length.Goals as goal

pub sample_count-requires : goal.sample_count-requires
sample_count-requires c = clip_inside (node_read c.args.self.now c.requires.0 c.node-c.ensures) c.requires.1

pub returns : goal.returns
unfolding duration node_length node_of
returns c = rw (c.duration.ensures, c.rate.ensures c.args.self.now.figure.plan.words.now, c.sample_count.ensures, c.node-c.ensures)
