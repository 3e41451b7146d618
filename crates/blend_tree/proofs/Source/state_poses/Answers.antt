-- `blend_tree::Source::state_poses` meets its contract: a passed state has a node, and its last one is the root. Assumes nothing.
use Prim.Native.Nat.{◌+◌}
use native.Mathlib.Omega.{arith}
use mathlib.Core.Path.{◌∙◌}
use Rattle.blend_tree.proofs.PoseLaws.{root_there, root_pose}
use Rattle.blend_tree.proofs.Source.state_poses.Goals as goal

pub overflow_sub-self : goal.overflow_sub-self
overflow_sub-self c = omega (arith, root_there c.args.self.now.state)

pub node_poses-requires : goal.node_poses-requires
node_poses-requires c = (c.requires, omega (arith, root_there c.args.self.now.state))

pub returns : goal.returns
returns c j h =
    let from = c.args.self.now in
    c.node_poses.ensures j h ∙ root_pose from.state from.parameters.now from.instances.now (c.args.joints.first + j)
