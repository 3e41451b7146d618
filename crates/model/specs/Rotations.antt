-- Document 01, "Numbers (math.rs)", second half: lerp_quaternion, both rotation conversions, and the matrix product. Definitions only.
-- Each keeps the Rust's order of operations.
use Rattle.std.specs.Prelude.{ℕ, zero, suc, cond, List, [], ◌∷◌, Float}
use Rattle.std.specs.Float.Ieee.{lt, neg}
use Rattle.model.specs.declared.Quaternion.{Quaternion}
use Rattle.model.specs.declared.Row.{Row}
use Rattle.model.specs.declared.Matrix4.{Matrix4}
use Rattle.model.specs.Numbers.{◌+₃₂◌, ◌-₃₂◌, ◌*₃₂◌, 0f, 1f, half, inv_sqrt}

-- ---- lerp_quaternion

abbrev pub quaternion : Float → Float → Float → Float → Quaternion
quaternion w x y z = record { w = w; x = x; y = y; z = z }

abbrev pub dot : Quaternion → Quaternion → Float
dot p q = p.w *₃₂ q.w +₃₂ p.x *₃₂ q.x +₃₂ p.y *₃₂ q.y +₃₂ p.z *₃₂ q.z

abbrev pub scaled : Quaternion → Float → Quaternion
scaled q f = quaternion (q.w *₃₂ f) (q.x *₃₂ f) (q.y *₃₂ f) (q.z *₃₂ f)

-- 'second weight': keeps the sign of the dot product, so that the blend takes the short way round
abbrev pub second_weight : Float → Float → Float
second_weight d factor = cond (lt 0f d) factor (neg factor)

abbrev pub weighted_sum : Float → Quaternion → Float → Quaternion → Quaternion
weighted_sum s p t q =
    quaternion (s *₃₂ p.w +₃₂ t *₃₂ q.w) (s *₃₂ p.x +₃₂ t *₃₂ q.x) (s *₃₂ p.y +₃₂ t *₃₂ q.y) (s *₃₂ p.z +₃₂ t *₃₂ q.z)

-- times the approximate inverse root of its square
unfoldable pub normalised : Quaternion → Quaternion
normalised q = scaled q (inv_sqrt (dot q q))

unfoldable pub lerp_quaternion : Quaternion → Quaternion → Float → Quaternion
lerp_quaternion p q factor = normalised (weighted_sum (1f -₃₂ factor) p (second_weight (dot p q) factor) q)

-- ---- matrices

abbrev pub row : Float → Float → Float → Float → Row
row a b c d = record { c0 = a; c1 = b; c2 = c; c3 = d }

-- the Rust's m[i][j], for i and j below 4
abbrev pub row_at : Matrix4 → ℕ → Row
row_at m zero = m.r0
row_at m (suc zero) = m.r1
row_at m (suc (suc zero)) = m.r2
row_at m (suc (suc (suc n))) = m.r3

abbrev pub column_at : Row → ℕ → Float
column_at r zero = r.c0
column_at r (suc zero) = r.c1
column_at r (suc (suc zero)) = r.c2
column_at r (suc (suc (suc n))) = r.c3

abbrev pub entry : Matrix4 → ℕ → ℕ → Float
entry m i j = column_at (row_at m i) j

unfoldable pub identity_matrix : Matrix4
identity_matrix = record { r0 = row 1f 0f 0f 0f; r1 = row 0f 1f 0f 0f; r2 = row 0f 0f 1f 0f; r3 = row 0f 0f 0f 1f }

-- one entry of a 'matrix product': four products, summed from the left
abbrev pub product_entry : Row → Float → Float → Float → Float → Float
product_entry a b0 b1 b2 b3 = a.c0 *₃₂ b0 +₃₂ a.c1 *₃₂ b1 +₃₂ a.c2 *₃₂ b2 +₃₂ a.c3 *₃₂ b3

-- a row of the product: the row a by each column of the matrix b
unfoldable pub product_row : Row → Matrix4 → Row
product_row a b =
    row
    (product_entry a b.r0.c0 b.r1.c0 b.r2.c0 b.r3.c0)
    (product_entry a b.r0.c1 b.r1.c1 b.r2.c1 b.r3.c1)
    (product_entry a b.r0.c2 b.r1.c2 b.r2.c2 b.r3.c2)
    (product_entry a b.r0.c3 b.r1.c3 b.r2.c3 b.r3.c3)

unfoldable pub product : Matrix4 → Matrix4 → Matrix4
product a b = record { r0 = product_row a.r0 b; r1 = product_row a.r1 b; r2 = product_row a.r2 b; r3 = product_row a.r3 b }

-- 16 floats by rows
unfoldable pub floats : Matrix4 → List Float
floats m =
    m.r0.c0 ∷ m.r0.c1 ∷ m.r0.c2 ∷ m.r0.c3 ∷
    m.r1.c0 ∷ m.r1.c1 ∷ m.r1.c2 ∷ m.r1.c3 ∷
    m.r2.c0 ∷ m.r2.c1 ∷ m.r2.c2 ∷ m.r2.c3 ∷
    m.r3.c0 ∷ m.r3.c1 ∷ m.r3.c2 ∷ m.r3.c3 ∷ []

-- ---- quaternion_to_matrix. The published page has its transpose

unfoldable pub quaternion_to_matrix : Quaternion → Matrix4
quaternion_to_matrix q =
    let x2 = q.x +₃₂ q.x in
    let y2 = q.y +₃₂ q.y in
    let z2 = q.z +₃₂ q.z in
    let xx2 = x2 *₃₂ q.x in
    let xy2 = x2 *₃₂ q.y in
    let xz2 = x2 *₃₂ q.z in
    let yy2 = y2 *₃₂ q.y in
    let yz2 = y2 *₃₂ q.z in
    let zz2 = z2 *₃₂ q.z in
    let wy2 = y2 *₃₂ q.w in
    let wz2 = z2 *₃₂ q.w in
    let wx2 = x2 *₃₂ q.w in
    record {
      r0 = row (1f -₃₂ yy2 -₃₂ zz2) (xy2 +₃₂ wz2) (xz2 -₃₂ wy2) 0f;
      r1 = row (xy2 -₃₂ wz2) (1f -₃₂ xx2 -₃₂ zz2) (yz2 +₃₂ wx2) 0f;
      r2 = row (xz2 +₃₂ wy2) (yz2 -₃₂ wx2) (1f -₃₂ xx2 -₃₂ yy2) 0f;
      r3 = row 0f 0f 0f 1f;
    }

-- ---- matrix_to_quaternion

unfoldable pub from_trace : Matrix4 → Float → Quaternion
from_trace m trace =
    let t = trace +₃₂ 1f in
    let s = inv_sqrt t *₃₂ half in
    quaternion (s *₃₂ t) ((entry m 1 2 -₃₂ entry m 2 1) *₃₂ s) ((entry m 2 0 -₃₂ entry m 0 2) *₃₂ s) ((entry m 0 1 -₃₂ entry m 1 0) *₃₂ s)

-- by diagonal entry i, with j and k the next two in the cycle 0, 1, 2: `put` gets w, q[i], q[j] and q[k]
unfoldable pub from_diagonal : Matrix4 → ℕ → ℕ → ℕ → (Float → Float → Float → Float → Quaternion) → Quaternion
from_diagonal m i j k put =
    let t = entry m i i -₃₂ (entry m j j +₃₂ entry m k k) +₃₂ 1f in
    let s = inv_sqrt t *₃₂ half in
    put ((entry m j k -₃₂ entry m k j) *₃₂ s) (s *₃₂ t) ((entry m i j +₃₂ entry m j i) *₃₂ s) ((entry m i k +₃₂ entry m k i) *₃₂ s)

-- the branch: by the trace where that is positive, else by a diagonal entry. At ties, and beside a NaN, the earlier entry stays
unfoldable pub matrix_to_quaternion : Matrix4 → Quaternion
matrix_to_quaternion m =
    let trace = entry m 0 0 +₃₂ entry m 1 1 +₃₂ entry m 2 2 in
    let by0 = from_diagonal m 0 1 2 (λ w qi qj qk. quaternion w qi qj qk) in
    let by1 = from_diagonal m 1 2 0 (λ w qi qj qk. quaternion w qk qi qj) in
    let by2 = from_diagonal m 2 0 1 (λ w qi qj qk. quaternion w qj qk qi) in
    cond (lt 0f trace) (from_trace m trace)
    (cond (lt (entry m 0 0) (entry m 1 1))
    (cond (lt (entry m 1 1) (entry m 2 2)) by2 by1)
    (cond (lt (entry m 0 0) (entry m 2 2)) by2 by0))
