-- The matrices of a frame: how many there are, and matrix j in an output that begins with them.
use Rattle.std.specs.Prelude.{ℕ, zero, suc, ◌+◌, ◌*◌, ◌<◌, ◌≡◌, refl, List, [], ◌∷◌, ◌++◌, length, get_or, take, drop, Float}
use Rattle.std.proofs.Common.{arith, append_assoc}
use Rattle.std.proofs.Math.Seq.{drop-append-add}
use Rattle.model.specs.declared.Matrix4.{Matrix4}
use Rattle.model.specs.declared.Player.{Player}
use Rattle.model.specs.declared.FrameKind.{FrameKind}
use Rattle.model.specs.Rotations.{identity_matrix, floats}
use Rattle.model.specs.Plan.{joint_count, output_at}
use Rattle.model.specs.Skeleton.{joint_matrices, flat}
use Rattle.model.specs.Run.{frame_matrices}
use Rattle.model.proofs.Laws.Table.{table_length}

pub matrix_at_lem : (ms : List Matrix4) (rest : List Float) (j : ℕ) → j < length ms → take 16 (drop (output_at j) (flat ms ++ rest)) ≡ floats (get_or ms j identity_matrix)
unfolding flat floats
matrix_at_lem [] rest j h = absurd (omega arith)
matrix_at_lem (m ∷ ms) rest zero h = refl
matrix_at_lem (m ∷ ms) rest (suc j) h =
    let e : 16 * suc j ≡ 16 + 16 * j = omega arith in
    rw (e, append_assoc (floats m) (flat ms) rest, drop-append-add (floats m) (flat ms ++ rest) (16 * j)) (matrix_at_lem ms rest j (omega arith))

pub frame_length : (plan : List ℕ) (numbers : List Float) (p : Player) (ext : Float) (kind : FrameKind) → length (frame_matrices plan numbers p ext kind) ≡ joint_count plan
unfolding frame_matrices joint_matrices
frame_length plan numbers p ext kind = table_length _ (joint_count plan)
