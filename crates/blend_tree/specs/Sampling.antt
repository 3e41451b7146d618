-- Samples counted over all clips, and the pose of a joint between two of them. Definitions only.
use Rattle.std.specs.Prelude.{ℕ, ◌+◌, ◌*◌, ◌≤◌, ◌<◌, ◌≡◌, List, length, Float}
use Rattle.model.specs.declared.Pose.{Pose}
use Rattle.model.specs.declared.ClipInstance.{ClipInstance}
use Rattle.model.specs.Numbers.{◌*₃₂◌}
use Rattle.model.specs.Pose.{lerp}
use Rattle.model.specs.Plan.{max_clips, max_samples, clip_count, sample_count, is_stopping, samples_before, number, Rate, numbers_length}
use Rattle.model.specs.Clips.{local_time, first_index, second_index, factor, sampled_position}
use Rattle.layout.specs.declared.Layout.{Layout}
use Rattle.layout.specs.Layout.{Laid}
use Rattle.animation.specs.declared.Position.{Position}
use Rattle.animation.specs.Sampling.{pose_from}
use Rattle.blend_tree.specs.declared.sampling.Clip.{Clip}

unfoldable pub clip_of : List ℕ → List Float → ℕ → Clip
clip_of plan numbers c = record { samples = sample_count plan c; before = samples_before plan c; stops = is_stopping plan c; rate = number plan numbers (Rate c) }

-- it has samples, and so few that nothing overflows
abbrev pub Sized : Clip → Type 0
Sized clip = (0 < clip.samples) × (clip.samples ≤ max_samples) × (clip.before ≤ max_clips * max_samples)

-- where an instance of a clip is sampled at a time
abbrev pub position_at : Clip → ClipInstance → Float → Float
position_at clip instance time = sampled_position clip.stops clip.samples (local_time instance time *₃₂ clip.rate)

-- on either side of a position
unfoldable pub samples_at : Clip → Float → Position
samples_at clip position =
    record { first = clip.before + first_index clip.samples position; second = clip.before + second_index clip.samples position; factor = factor position }

-- where a sample's pose of joint j begins
abbrev pub pose_start : Layout → ℕ → ℕ → ℕ
pose_start layout sample j = layout.poses_at + (sample * layout.joints + j) * 8

unfoldable pub pose_between : List Float → Layout → Position → ℕ → Pose
pose_between numbers layout p j = lerp (pose_from numbers (pose_start layout p.first j)) (pose_from numbers (pose_start layout p.second j)) p.factor

-- these are samples of a clip that has some, of a plan that passed with these numbers and has this layout
pub record Sampled (numbers : List Float) (layout : Layout) (samples : Position) : Type 0 where
  pub plan : List ℕ
  pub c : ℕ
  pub position : Float
  pub laid : Laid plan layout
  pub whole : length numbers ≡ numbers_length plan
  pub clip : c < clip_count plan
  pub some : 0 < sample_count plan c
  pub found : samples ≡ samples_at (clip_of plan numbers c) position
