use Rattle.blend_tree.proofs.Source.+node_poses.Given as goal

-- each input is an earlier node
abbrev pub decreases-node_poses : goal.decreases-node_poses
decreases-node_poses l = l.node
