-- Matrices inside the output buffer: how one is read back, how floats are stored, and what the joints done so far make of the buffer. Definitions only.
use Rattle.std.specs.Prelude.{ℕ, zero, suc, ◌+◌, ◌≤◌, ◌<◌, ◌≡◌, cond, List, [], ◌∷◌, ◌++◌, length, get_or, take, drop, Float}
use Rattle.std.specs.Float.{nan}
use Rattle.model.specs.declared.Pose.{Pose}
use Rattle.model.specs.declared.Row.{Row}
use Rattle.model.specs.declared.Matrix4.{Matrix4}
use Rattle.model.specs.declared.FrameKind.{FrameKind}
use Rattle.model.specs.Rotations.{row, identity_matrix}
use Rattle.model.specs.Pose.{to_matrix}
use Rattle.model.specs.Plan.{joint_count, parent, is_root, output_at}
use Rattle.model.specs.Skeleton.{own_matrix, joint_matrices, flat}
use Rattle.lanes.specs.Lanes.{lane_at}

-- there is room for the matrices of all joints
abbrev pub HasRoom : List ℕ → List Float → Type 0
HasRoom plan output = output_at (joint_count plan) ≤ length output

-- the row and the matrix that a list begins with
unfoldable pub row_from : List Float → Row
row_from l = row (get_or l 0 nan) (get_or l 1 nan) (get_or l 2 nan) (get_or l 3 nan)

unfoldable pub matrix_from : List Float → Matrix4
matrix_from l = record { r0 = row_from l; r1 = row_from (drop 4 l); r2 = row_from (drop 8 l); r3 = row_from (drop 12 l) }

-- the floats of a row
abbrev pub row_floats : Row → List Float
row_floats r = r.c0 ∷ r.c1 ∷ r.c2 ∷ r.c3 ∷ []

-- the list l with xs written over it, beginning at float k
unfoldable pub stored : List Float → ℕ → List Float → List Float
stored l k xs = take k l ++ (xs ++ drop (k + length xs) l)

-- the matrix of joint j's parent, read back from the buffer
unfoldable pub parent_in : List ℕ → List Float → ℕ → Matrix4
parent_in plan buffer j = cond (is_root plan j) identity_matrix (matrix_from (drop (output_at (parent plan j)) buffer))

-- the buffer that held `old` once the first n joints are written
unfoldable pub joints_written : FrameKind → List ℕ → (ℕ → Pose) → ℕ → List Float → List Float
joints_written kind plan pose_of n old = flat (joint_matrices kind plan pose_of n) ++ drop (output_at n) old

-- the own matrices of n joints from joint j on
unfoldable pub own_matrices : FrameKind → (ℕ → Pose) → ℕ → ℕ → List Matrix4
own_matrices kind pose_of j zero = []
own_matrices kind pose_of j (suc n) = own_matrix kind (to_matrix (pose_of j)) ∷ own_matrices kind pose_of (suc j) n

-- matrices `ms`, and behind them the own ones of n joints, in a buffer that held `old`
unfoldable pub own_behind : FrameKind → (ℕ → Pose) → List Matrix4 → ℕ → ℕ → List Float → List Float
own_behind kind pose_of ms j n old = flat ms ++ (flat (own_matrices kind pose_of j n) ++ drop (output_at (j + n)) old)

-- those of `count` lanes are stored behind the first `first` matrices, whatever these are and the buffer held
pub record OwnMatrices (kind : FrameKind) (block : List Pose) (first count : ℕ) (before after : List Float) : Type 0 where
  pub own : (pose_of : ℕ → Pose) → ((i : ℕ) → i < count → lane_at block i ≡ pose_of (first + i)) → (ms : List Matrix4) → length ms ≡ first → (old : List Float)
      → before ≡ flat ms ++ drop (output_at first) old → after ≡ own_behind kind pose_of ms first count old

-- of `count` own matrices behind the first `first` joints', each is multiplied by its parent's
pub record Multiplied (plan : List ℕ) (first count : ℕ) (before after : List Float) : Type 0 where
  pub product : (kind : FrameKind) (pose_of : ℕ → Pose) (old : List Float)
      → before ≡ own_behind kind pose_of (joint_matrices kind plan pose_of first) first count old → after ≡ joints_written kind plan pose_of (first + count) old

-- a block of `count` lanes is written behind the first `first` joints, whatever poses the joints have and the buffer held
pub record GlobalPoses (kind : FrameKind) (plan : List ℕ) (block : List Pose) (first count : ℕ) (before after : List Float) : Type 0 where
  pub written : (pose_of : ℕ → Pose) → ((i : ℕ) → i < count → lane_at block i ≡ pose_of (first + i)) → (old : List Float)
      → before ≡ joints_written kind plan pose_of first old → after ≡ joints_written kind plan pose_of (first + count) old
