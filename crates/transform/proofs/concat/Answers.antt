-- `transform::concat` meets its contract: it leaves out the last row of the product, which `from_matrix` does not read. Assumes nothing.
use mathlib.Core.Path.{◌≡◌, refl, ◌∙◌}
use Rattle.model.specs.declared.Row.{Row}
use Rattle.model.specs.declared.Matrix4.{Matrix4}
use Rattle.model.specs.Rotations.{product, from_trace, from_diagonal, matrix_to_quaternion}
use Rattle.model.specs.Pose.{from_matrix, concat}
use Rattle.transform.proofs.concat.Goals as goal

last-row-unread : (m : Matrix4) (r : Row) → from_matrix (record { r0 = m.r0; r1 = m.r1; r2 = m.r2; r3 = r }) ≡ from_matrix m
unfolding from_matrix matrix_to_quaternion from_trace from_diagonal
last-row-unread m r = refl

pub returns : goal.returns
unfolding product concat
returns c =
    c.from_matrix.ensures
    ∙ rw (c.product_row-r2.ensures, c.product_row-r1.ensures, c.product_row-r0.ensures, c.to_matrix-b.ensures, c.to_matrix-a.ensures) (last-row-unread _ _)
