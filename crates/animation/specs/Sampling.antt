-- A position as its two indices and factor, and the pose that begins at a number. Definitions only.
use Rattle.std.specs.Prelude.{ℕ, ◌+◌, List, get_or, Float}
use Rattle.std.specs.Float.{nan}
use Rattle.model.specs.declared.Pose.{Pose}
use Rattle.model.specs.Rotations.{quaternion}
use Rattle.model.specs.Pose.{vector}
use Rattle.model.specs.Clips.{first_index, second_index, factor}
use Rattle.animation.specs.declared.Position.{Position}

-- in a clip of n samples
unfoldable pub position_in : ℕ → Float → Position
position_in n position = record { first = first_index n position; second = second_index n position; factor = factor position }

-- the eight numbers from a place on
unfoldable pub pose_from : List Float → ℕ → Pose
pose_from numbers at =
    let float : ℕ → Float = λ k. get_or numbers (at + k) nan in
    record { translation = vector (float 0) (float 1) (float 2); scale = float 3; rotation = quaternion (float 4) (float 5) (float 6) (float 7) }
