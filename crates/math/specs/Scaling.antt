-- The last step of matrix_to_quaternion, and its cycle of axes turned by one. Definitions only.
use Rattle.model.specs.declared.Quaternion.{Quaternion}
use Rattle.model.specs.declared.Row.{Row}
use Rattle.model.specs.declared.Matrix4.{Matrix4}
use Rattle.model.specs.Numbers.{◌*₃₂◌, half, inv_sqrt}
use Rattle.model.specs.Rotations.{quaternion, scaled, row}
use Rattle.math.specs.declared.Unscaled.{Unscaled}

abbrev pub scaled_by_root : Unscaled → Quaternion
scaled_by_root u = scaled u.q (inv_sqrt u.t *₃₂ half)

-- entry i of the turned matrix is entry i + 1 of the matrix, and 0 after 2
abbrev pub turned_row : Row → Row
turned_row r = row r.c1 r.c2 r.c0 r.c3

abbrev pub turned : Matrix4 → Matrix4
turned m = record { r0 = turned_row m.r1; r1 = turned_row m.r2; r2 = turned_row m.r0; r3 = m.r3 }

-- the other way round, for the vector part of a quaternion
abbrev pub vector_turned_back : Quaternion → Quaternion
vector_turned_back q = quaternion q.w q.z q.x q.y

abbrev pub turned_back : Unscaled → Unscaled
turned_back u = record { t = u.t; q = vector_turned_back u.q }
