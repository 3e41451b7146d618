-- Document 01, "Pose (transform.rs)". Definitions only.
use Rattle.std.specs.Prelude.{Float}
use Rattle.model.specs.declared.Vector3.{Vector3}
use Rattle.model.specs.declared.Pose.{Pose}
use Rattle.model.specs.declared.Matrix4.{Matrix4}
use Rattle.model.specs.Numbers.{◌+₃₂◌, ◌-₃₂◌, ◌*₃₂◌, 0f, 1f}
use Rattle.model.specs.Rotations.{quaternion, lerp_quaternion, row, product, quaternion_to_matrix, matrix_to_quaternion}

abbrev pub vector : Float → Float → Float → Vector3
vector x y z = record { x = x; y = y; z = z }

-- 'identity pose': moves nothing, scale one, the unit quaternion
unfoldable pub identity_pose : Pose
identity_pose = record { translation = vector 0f 0f 0f; scale = 1f; rotation = quaternion 1f 0f 0f 0f }

-- interpolation::lerp
abbrev pub lerp_float : Float → Float → Float → Float
lerp_float a b t = a +₃₂ (b -₃₂ a) *₃₂ t

abbrev pub lerp_vector : Vector3 → Vector3 → Float → Vector3
lerp_vector a b t = vector (lerp_float a.x b.x t) (lerp_float a.y b.y t) (lerp_float a.z b.z t)

-- 'lerp', part by part
unfoldable pub lerp : Pose → Pose → Float → Pose
lerp p q t =
    record {
      translation = lerp_vector p.translation q.translation t;
      scale = lerp_float p.scale q.scale t;
      rotation = lerp_quaternion p.rotation q.rotation t;
    }

-- to_matrix: column 3 holds the translation, and nothing reads the scale
unfoldable pub to_matrix : Pose → Matrix4
to_matrix p =
    let m = quaternion_to_matrix p.rotation in
    let t = p.translation in
    record {
      r0 = row m.r0.c0 m.r0.c1 m.r0.c2 t.x;
      r1 = row m.r1.c0 m.r1.c1 m.r1.c2 t.y;
      r2 = row m.r2.c0 m.r2.c1 m.r2.c2 t.z;
      r3 = m.r3;
    }

unfoldable pub from_matrix : Matrix4 → Pose
from_matrix m = record { translation = vector m.r0.c3 m.r1.c3 m.r2.c3; scale = 1f; rotation = matrix_to_quaternion m }

-- 'concat': from_matrix of the matrices' product, so its scale is always 1
unfoldable pub concat : Pose → Pose → Pose
concat p q = from_matrix (product (to_matrix p) (to_matrix q))
