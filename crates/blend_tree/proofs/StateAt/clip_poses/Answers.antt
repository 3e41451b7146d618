-- `blend_tree::StateAt::clip_poses` meets its contract: the identity in each lane where the clip has no samples, else the poses between two of them. Assumes
-- nothing.
use mathlib.Core.Path.{◌∙◌}
use Rattle.blend_tree.proofs.SamplingLaws.{clip_sized, sampled, identity_shown, between_shown}
use Rattle.blend_tree.proofs.StateAt.clip_poses.Goals as goal

pub returns-then-clip-eq0 : goal.returns-then-clip-eq0
returns-then-clip-eq0 c i h =
    c.identity_poses.ensures i h ∙ identity_shown _ _ _ c.clip_at-clip.ensures _ _ _ c.if-clip-eq0.true

pub clip_position-position-requires : goal.clip_position-position-requires
clip_position-position-requires c = clip_sized c.args.self.now.figure c.requires.0 c.clip_at-clip.ensures c.if-clip-eq0.false

pub clip_samples-samples-requires : goal.clip_samples-samples-requires
clip_samples-samples-requires c = clip_sized c.args.self.now.figure c.requires.0 c.clip_at-clip.ensures c.if-clip-eq0.false

pub sampled_poses-requires : goal.sampled_poses-requires
sampled_poses-requires c =
    (sampled c.args.self.now.figure c.requires.0 c.clip_at-clip.ensures c.if-clip-eq0.false _ c.clip_samples-samples.ensures, c.requires.1)

pub returns : goal.returns
returns c i h =
    c.sampled_poses.ensures i h
    ∙ between_shown _ _ _ c.clip_at-clip.ensures _ _ _ c.args.self.now.figure.plan.laid.found c.if-clip-eq0.false c.clip_position-position.ensures c.clip_samples-samples.ensures
