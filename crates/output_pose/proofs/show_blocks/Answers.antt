-- `output_pose::show_blocks` meets its contract. Invariant: the output is the old one with the first joints' matrices written. Assumes nothing.
use native.Mathlib.Omega.{arith}
use mathlib.Core.Path.{refl}
use Rattle.layout.proofs.Laws.{joints_found}
use Rattle.output_pose.proofs.Laws.{through_none, through_next, through_all}
use Rattle.output_pose.proofs.show_blocks.Goals as goal

pub loop-first-init : goal.loop-first-init
loop-first-init c = through_none

pub calculate_global_poses-requires : goal.calculate_global_poses-requires
calculate_global_poses-requires c =
    let at = c.args.source.now.state in
    let found = joints_found _ at.figure.plan.laid.found in
    (omega arith, omega (arith, found), omega (arith, found, c.loop-first.invariant.kept, c.requires.1))

pub loop-first-preserved : goal.loop-first-preserved
loop-first-preserved c =
    through_next c.loop-first.invariant c.calculate_global_poses.ensures c.shown_poses.ensures (omega arith) (omega arith) (omega arith)

pub returns : goal.returns
returns c = through_all c.loop-first.invariant (joints_found _ c.args.source.now.state.figure.plan.laid.found) (omega arith)

-- the last block
pub returns-2 : goal.returns-2
returns-2 c =
    let at = c.args.source.now.state in
    through_all {joints = at.figure.plan.layout.joints} (through_next c.loop-first.invariant c.calculate_global_poses.ensures c.shown_poses.ensures (omega arith) refl (omega arith))
    (joints_found _ at.figure.plan.laid.found) (omega arith)
