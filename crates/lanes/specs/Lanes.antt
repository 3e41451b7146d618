-- A block of poses, with a lane for each of a row of joints. Definitions only.
use Rattle.std.specs.Prelude.{ℕ, List, get_or}
use Rattle.std.specs.Float.{nan}
use Rattle.model.specs.declared.Pose.{Pose}
use Rattle.model.specs.Rotations.{quaternion}
use Rattle.model.specs.Pose.{vector}

-- lanes in a block
abbrev pub block_size : ℕ
block_size = 32

-- the pose in lane j, NaNs past the end
abbrev pub lane_at : List Pose → ℕ → Pose
lane_at block j = get_or block j (record { translation = vector nan nan nan; scale = nan; rotation = quaternion nan nan nan nan })
