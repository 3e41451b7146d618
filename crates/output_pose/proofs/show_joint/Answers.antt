-- `output_pose::show_joint` meets its contract: the state's only node is a clip, and the joint's pose is the clip's. Assumes nothing.
use native.Mathlib.Omega.{arith}
use mathlib.Core.Path.{◌≡◌, sym, ◌∙◌}
use Rattle.model.specs.Plan.{joint_count}
use Rattle.layout.proofs.Laws.{joints_found}
use Rattle.layout.proofs.NodeLaws.{clip_inside}
use Rattle.blend_tree.proofs.NodeLaws.{node_read}
use Rattle.output_pose.proofs.JointLaws.{only_clip, instance_there, only_pose, joint_shown}
use Rattle.output_pose.proofs.show_joint.Goals as goal
use Rattle.output_pose.proofs.show_joint.Goals.{After-node-number}

one-joint : (n : After-node-number) → joint_count n.args.state.now.figure.plan.words.now ≡ 1
one-joint n = sym (joints_found _ n.args.state.now.figure.plan.laid.found) ∙ n.requires.0

pub instance_at-instance-requires : goal.instance_at-instance-requires
instance_at-instance-requires c = instance_there c.args.state.now c.requires.1

pub clip_pose-pose-requires : goal.clip_pose-pose-requires
clip_pose-pose-requires c =
    let at = c.args.state.now in
    (clip_inside (node_read at (omega (arith, c.requires.1)) c.node-number.ensures) (only_clip at c.requires.1), omega (arith, c.requires.0))

pub calculate_root_pose-requires : goal.calculate_root_pose-requires
calculate_root_pose-requires c =
    omega (arith, one-joint (goal.at.calculate_root_pose-requires c).After-node-number, c.requires.2)

pub returns : goal.returns
returns c =
    joint_shown _ _ _ _ _ _ _ _ _ (one-joint (goal.at.returns c).After-node-number)
    (λ parameters. c.clip_pose-pose.ensures ∙ only_pose c.args.state.now c.requires.1 c.node-number.ensures _ c.instance_at-instance.ensures parameters 0)
    c.calculate_root_pose.ensures
