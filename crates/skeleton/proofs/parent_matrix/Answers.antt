-- `skeleton::parent_matrix` meets its contract: its test is the root's, since the plan passed; another's parent comes first, so its matrix is there. Assumes
-- nothing.
use native.Mathlib.Omega.{arith}
use borrow.Author.Tests.{le-leb, lt-leb}
use mathlib.Core.Path.{◌∙◌}
use Rattle.model.proofs.Laws.Passed.{few_joints, parent_there, root_by_parent}
use Rattle.skeleton.specs.Buffer.{parent_in}
use Rattle.skeleton.proofs.parent_matrix.Goals as goal

pub parent-p-requires : goal.parent-p-requires
parent-p-requires c = parent_there _ _ c.args.plan.now.laid.passed _ c.requires.0

pub output_at-requires : goal.output_at-requires
output_at-requires c = omega (arith, few_joints _ _ c.args.plan.now.laid.passed)

pub returns-then-p-j : goal.returns-then-p-j
unfolding parent_in
returns-then-p-j c =
    let root = root_by_parent _ _ c.args.plan.now.laid.passed _ c.requires.0 in
    c.identity_matrix.ensures ∙ rw (root, le-leb c.args.j _ (rw c.parent-p.ensures at c.if-p-j.true))

pub returns : goal.returns
unfolding parent_in
returns c =
    let root = root_by_parent _ _ c.args.plan.now.laid.passed _ c.requires.0 in
    c.matrix_at.ensures ∙ rw (root, lt-leb c.args.j _ (rw c.parent-p.ensures at c.if-p-j.false), ← c.parent-p.ensures, c.output_at.ensures)
