-- Document 01, "Clips (animation.rs)", with document 02's Card 1, clips that stop, and Card 2, clips without samples. Definitions only.
use Rattle.std.specs.Prelude.{ℕ, zero, suc, ◌+◌, ◌-◌, ◌*◌, ◌%◌, Bool, cond, ◌&&◌, List, [], ◌∷◌, get_or, set, Float}
use Rattle.std.specs.Float.{nan}
use Rattle.std.specs.Float.Ieee.{ne, le}
use Rattle.model.specs.declared.Pose.{Pose}
use Rattle.model.specs.declared.ClipInstance.{ClipInstance}
use Rattle.model.specs.Numbers.{◌+₃₂◌, ◌-₃₂◌, ◌*₃₂◌, ◌/₃₂◌, 0f, 1f, floor_index, ceiling_index, index_float}
use Rattle.model.specs.Pose.{identity_pose, lerp}
use Rattle.model.specs.Plan.{sample_count, is_empty, is_stopping, number, Rate, sample_pose}

-- ---- a position

-- 'indices': the samples on either side of it, wrapped round
unfoldable pub first_index : ℕ → Float → ℕ
first_index n position = floor_index position % n

unfoldable pub second_index : ℕ → Float → ℕ
second_index n position = ceiling_index position % n

-- 'factor': how far past its floor, before any wrap round
unfoldable pub factor : Float → Float
factor position = position -₃₂ index_float (floor_index position)

-- Card 1, 'sampled as at N − 1': where a stopping clip is 'at position N − 1 or above', which NaN is not
unfoldable pub sampled_position : Bool → ℕ → Float → Float
sampled_position stopping n position = cond (stopping && le (index_float (n - 1)) position) (index_float (n - 1)) position

-- ---- a clip instance

-- 'local time'
abbrev pub local_time : ClipInstance → Float → Float
local_time i time = (time -₃₂ i.start) *₃₂ i.rate +₃₂ i.offset

-- a new rate goes on from the same local time. Rates are told apart by Rust's `!=`, so a NaN is always new
abbrev pub set_playback_rate : ClipInstance → Float → Float → ClipInstance
set_playback_rate i time rate =
    cond (ne i.rate rate) (record { start = i.start; rate = rate; offset = local_time i time -₃₂ (time -₃₂ i.start) *₃₂ rate }) i

-- ---- a player's clip instances: start, rate and offset of each, in one list

abbrev pub instance_at : List Float → ℕ → ClipInstance
instance_at instances n = record { start = get_or instances (3 * n) nan; rate = get_or instances (3 * n + 1) nan; offset = get_or instances (3 * n + 2) nan }

abbrev pub set_instance : List Float → ℕ → ClipInstance → List Float
set_instance instances n i = set (set (set instances (3 * n) i.start) (3 * n + 1) i.rate) (3 * n + 2) i.offset

-- n of the blank player's
unfoldable pub blank_instances : ℕ → List Float
blank_instances zero = []
blank_instances (suc n) = 0f ∷ 1f ∷ 0f ∷ blank_instances n

-- ---- a clip

module _ (plan : List ℕ) (numbers : List Float) where
  -- 'duration'
  unfoldable pub duration : ℕ → Float
  duration c = index_float (sample_count plan c) /₃₂ number plan numbers (Rate c)

  -- 'position' of clip c at a local time
  abbrev pub position_of : ℕ → Float → Float
  position_of c local = local *₃₂ number plan numbers (Rate c)

  -- at a position of clip c, joint j's pose. Card 2: of a clip without samples 'the identity pose .. whatever its ending'
  unfoldable pub pose_at : ℕ → ℕ → Float → Pose
  pose_at c j position =
      let n = sample_count plan c in
      let at = sampled_position (is_stopping plan c) n position in
      cond (is_empty plan c) identity_pose (lerp (sample_pose plan numbers c (first_index n at) j) (sample_pose plan numbers c (second_index n at) j) (factor at))

  -- at a 'local time'
  unfoldable pub clip_pose : ℕ → ℕ → Float → Pose
  clip_pose c j local = pose_at c j (position_of c local)
