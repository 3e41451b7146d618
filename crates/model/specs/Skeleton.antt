-- Document 01, step 3 of a frame (skeleton.rs), and document 02, Card 5, page frames. Definitions only.
use Rattle.std.specs.Prelude.{ℕ, cond, List, [], ◌∷◌, ◌++◌, get_or, drop, Float}
use Rattle.model.specs.declared.Pose.{Pose}
use Rattle.model.specs.declared.Matrix4.{Matrix4}
use Rattle.model.specs.declared.FrameKind.{FrameKind}
use Rattle.model.specs.declared.FrameKind.TheVariants.{Ordinary, Page}
use Rattle.model.specs.Rotations.{row, identity_matrix, product, floats}
use Rattle.model.specs.Pose.{to_matrix}
use Rattle.model.specs.Table.{table_to}
use Rattle.model.specs.Plan.{parent, is_root, joint_count, output_at}

-- the upper 3×3 transposed
unfoldable pub upper_transposed : Matrix4 → Matrix4
upper_transposed m =
    record {
      r0 = row m.r0.c0 m.r1.c0 m.r2.c0 m.r0.c3;
      r1 = row m.r0.c1 m.r1.c1 m.r2.c1 m.r1.c3;
      r2 = row m.r0.c2 m.r1.c2 m.r2.c2 m.r2.c3;
      r3 = m.r3;
    }

-- a joint's own matrix by kind of frame, from its pose's
unfoldable pub own_matrix : FrameKind → Matrix4 → Matrix4
own_matrix Ordinary m = m
own_matrix Page m = upper_transposed m

-- the parent's matrix, the identity for a root
unfoldable pub parent_matrix : List ℕ → List Matrix4 → ℕ → Matrix4
parent_matrix plan earlier j = cond (is_root plan j) identity_matrix (get_or earlier (parent plan j) identity_matrix)

module _ (kind : FrameKind) (plan : List ℕ) (pose_of : ℕ → Pose) where
  -- parent's times its own, the same product for both kinds
  unfoldable pub joint_matrix : List Matrix4 → ℕ → Matrix4
  joint_matrix earlier j = product (parent_matrix plan earlier j) (own_matrix kind (to_matrix (pose_of j)))

  -- of the first n joints
  unfoldable pub joint_matrices : ℕ → List Matrix4
  joint_matrices n = table_to joint_matrix n

-- the matrices one after the other
unfoldable pub flat : List Matrix4 → List Float
flat [] = []
flat (m ∷ ms) = floats m ++ flat ms

-- the output buffer afterwards: what lies behind the joints' floats is as it was
unfoldable pub written : List ℕ → List Matrix4 → List Float → List Float
written plan ms old = flat ms ++ drop (output_at (joint_count plan)) old
