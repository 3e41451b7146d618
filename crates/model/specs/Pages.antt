-- Document 02, Card 5: what is shown of page frames. Definitions only: the theorems are in proofs/Pages.antt.
use Rattle.model.specs.Bench.{with_parents}
use Rattle.std.specs.Prelude.{ℕ, zero, suc, List, [], ◌∷◌, Float}
use Rattle.std.proofs.Math.ListN.{get_or}
use Rattle.std.specs.Float.{binary32}
use Rattle.std.specs.Float.Ieee.{neg, of_bits}
use Rattle.model.specs.declared.Pose.{Pose}
use Rattle.model.specs.declared.Matrix4.{Matrix4}
use Rattle.model.specs.declared.FrameKind.{FrameKind}
use Rattle.model.specs.Numbers.{0f, 1f, half}
use Rattle.model.specs.Rotations.{quaternion, identity_matrix}
use Rattle.model.specs.Pose.{vector}
use Rattle.model.specs.Plan.{root}
use Rattle.model.specs.Skeleton.{joint_matrices}

abbrev pub conjugated : Pose → Pose
conjugated p = let q = p.rotation in record { translation = p.translation; scale = p.scale; rotation = quaternion q.w (neg q.x) (neg q.y) (neg q.z) }

abbrev pub arm : Pose
arm = record { translation = vector half 0f 0f; scale = 1f; rotation = quaternion half half half half }

abbrev pub hand : Pose
hand = record { translation = vector 0f half 0f; scale = 1f; rotation = quaternion half (neg half) half half }

abbrev pub arm_and_hand : ℕ → Pose
arm_and_hand zero = arm
arm_and_hand (suc j) = hand

-- what a frame of this kind shows of them
abbrev pub shows : FrameKind → List Matrix4
shows kind = joint_matrices kind (with_parents (root ∷ 0 ∷ [])) arm_and_hand 2

abbrev pub 2^64f : Float
2^64f = of_bits binary32 0x5f80_0000

abbrev pub far_turned : Pose
far_turned = record { translation = vector 0f 0f 0f; scale = 1f; rotation = quaternion 1f 2^64f 0f 0f }

abbrev pub root_shows : FrameKind → Matrix4
root_shows kind = get_or (joint_matrices kind (with_parents (root ∷ [])) (λ _. far_turned) 1) 0 identity_matrix
