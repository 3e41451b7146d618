-- `skeleton::calculate_global_poses` meets its contract: one loop after the other. Assumes nothing.
use native.Mathlib.Omega.{arith}
use Rattle.model.proofs.Laws.Passed.{few_joints}
use Rattle.skeleton.proofs.Laws.{own_then_product}
use Rattle.skeleton.proofs.calculate_global_poses.Goals as goal

pub set_own_matrices-requires : goal.set_own_matrices-requires
set_own_matrices-requires c =
    (c.requires.0, omega (arith, few_joints _ _ c.args.plan.now.laid.passed), c.requires.2)

pub returns : goal.returns
returns c =
    own_then_product c.set_own_matrices.ensures c.multiply_by_parents.ensures
