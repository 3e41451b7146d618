-- `skeleton::set_joint` meets its contract: the product's rows, side by side. Assumes nothing.
use native.Mathlib.Omega.{arith}
use mathlib.Core.Path.{◌≡◌, ap, ◌∙◌}
use Rattle.model.specs.declared.Matrix4.{Matrix4}
use Rattle.model.specs.Rotations.{floats, product}
use Rattle.model.specs.Plan.{output_at}
use Rattle.skeleton.specs.Buffer.{stored}
use Rattle.skeleton.proofs.Laws.{stored_rows}
use Rattle.skeleton.proofs.set_joint.Goals as goal

pub returns : goal.returns
unfolding product
returns c =
    let at = c.output_at-at in
    let a = c.args in
    let r₀ = c.product_row in
    let r₁ = c.product_row-2 in
    let r₂ = c.product_row-3 in
    let r₃ = c.product_row-4 in
    let rows : Matrix4 = record { r0 = r₀.result; r1 = r₁.result; r2 = r₂.result; r3 = r₃.result } in
    let e : rows ≡ product a.base a.own = rw (r₀.ensures, r₁.ensures, r₂.ensures, r₃.ensures) in
    stored_rows rows at.result a.output.now (omega (arith, at.ensures, c.requires.1)) c.set_row.ensures c.set_row-2.ensures c.set_row-3.ensures c.set_row-4.ensures
    ∙ rw at.ensures (ap (λ (m : Matrix4). stored a.output.now (output_at a.j) (floats m)) e)
