-- `skeleton::multiply_by_parents` meets its contract: the products of the joints before j are done. Assumes nothing.
use Prim.Native.Nat.{◌+◌, ◌<◌}
use mathlib.Core.Path.{◌≡◌, ◌∙◌}
use native.Mathlib.Omega.{arith}
use Rattle.model.specs.Plan.{joint_count}
use Rattle.model.proofs.Laws.Passed.{few_joints}
use Rattle.layout.proofs.Laws.{laid_passes}
use Rattle.skeleton.proofs.Laws.{through_next, through_all}
use Rattle.skeleton.proofs.multiply_by_parents.Goals as goal

pub output_at-requires : goal.output_at-requires
output_at-requires c = omega (arith, few_joints _ _ c.args.plan.now.laid.passed)

pub set_joint-requires : goal.set_joint-requires
set_joint-requires c = (omega (arith, few_joints _ _ c.args.plan.now.laid.passed), omega arith)

pub loop-j-preserved : goal.loop-j-preserved
loop-j-preserved c =
    let l = c.loop-j in
    let there : l.j < joint_count c.args.plan.now.words.now = omega arith in
    record {
      same = c.set_joint.auto.output ∙ l.invariant.same;
      done = through_next _ _ _ (laid_passes c.args.plan.now.laid) there l.invariant.done (c.matrix_at-own.ensures ∙ rw c.output_at.ensures) c.parent_matrix-base.ensures c.set_joint.ensures;
    }

pub returns : goal.returns
returns c =
    let l = c.loop-j in
    let e : l.j ≡ c.args.joints.first + c.args.joints.count = omega arith in
    through_all _ _ _ (rw e at l.invariant.done)
