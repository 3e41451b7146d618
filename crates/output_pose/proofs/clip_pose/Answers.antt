-- `output_pose::clip_pose` meets its contract: the identity without samples, else the pose between those on either side. Assumes nothing.
use mathlib.Core.Path.{◌∙◌}
use Rattle.blend_tree.proofs.SamplingLaws.{clip_sized, sampled, identity_shown, between_shown}
use Rattle.output_pose.proofs.clip_pose.Goals as goal

pub returns-then-clip-eq0 : goal.returns-then-clip-eq0
returns-then-clip-eq0 c = c.identity.ensures ∙ identity_shown _ _ _ c.clip_at-clip.ensures _ _ 0 c.if-clip-eq0.true

pub clip_position-position-requires : goal.clip_position-position-requires
clip_position-position-requires c = clip_sized c.args.figure.now c.requires.0 c.clip_at-clip.ensures c.if-clip-eq0.false

pub clip_samples-samples-requires : goal.clip_samples-samples-requires
clip_samples-samples-requires c = clip_sized c.args.figure.now c.requires.0 c.clip_at-clip.ensures c.if-clip-eq0.false

pub joint_pose-requires : goal.joint_pose-requires
joint_pose-requires c =
    (sampled c.args.figure.now c.requires.0 c.clip_at-clip.ensures c.if-clip-eq0.false _ c.clip_samples-samples.ensures, c.requires.1)

pub returns : goal.returns
returns c =
    c.joint_pose.ensures
    ∙ between_shown _ _ _ c.clip_at-clip.ensures _ _ 0 c.args.figure.now.plan.laid.found c.if-clip-eq0.false c.clip_position-position.ensures c.clip_samples-samples.ensures
