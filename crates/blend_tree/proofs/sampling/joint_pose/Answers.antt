-- `blend_tree::sampling::joint_pose` meets its contract: a clip's samples are few, and their numbers are there. Assumes nothing.
use native.Mathlib.Omega.{arith}
use Rattle.blend_tree.specs.Sampling.{pose_between}
use Rattle.blend_tree.proofs.SamplingLaws.{samples_small, joint_inside}
use Rattle.blend_tree.proofs.sampling.joint_pose.Goals as goal

pub pose_at-requires : goal.pose_at-requires
pose_at-requires c = omega (arith, samples_small c.requires.0, c.requires.1)

pub pose_at-requires-2 : goal.pose_at-requires-2
pose_at-requires-2 c = omega (arith, samples_small c.requires.0, c.requires.1)

pub pose_between-requires : goal.pose_between-requires
pose_between-requires c = rw (c.pose_at.ensures, c.pose_at-2.ensures) (joint_inside c.requires.0 c.requires.1)

pub returns : goal.returns
unfolding pose_between
returns c = rw (c.pose_between.ensures, c.pose_at.ensures, c.pose_at-2.ensures)
