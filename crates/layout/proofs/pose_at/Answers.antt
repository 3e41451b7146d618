-- `layout::pose_at` meets its contract: nothing overflows. Assumes nothing.
use Prim.Native.Nat.{◌*◌, ◌≤◌}
use native.Mathlib.Nat.{le_of_lt, mul-le-mul}
use native.Mathlib.Omega.{arith}
use Rattle.model.specs.Plan.{max_joints, max_clips, max_samples}
use Rattle.layout.proofs.pose_at.Goals as goal
use Rattle.layout.proofs.pose_at.Goals.{Start}

small : (c : Start) → c.args.sample * c.args.layout.joints ≤ max_clips * max_samples * max_joints
small c = mul-le-mul (le_of_lt c.requires.2) c.requires.0

pub overflow_mul-result : goal.overflow_mul-result
overflow_mul-result c = omega (arith, small (goal.at.overflow_mul-result c).Start)

pub overflow_add-result : goal.overflow_add-result
overflow_add-result c = omega (arith, small (goal.at.overflow_add-result c).Start)

pub overflow_mul-result-2 : goal.overflow_mul-result-2
overflow_mul-result-2 c = omega (arith, small (goal.at.overflow_mul-result-2 c).Start)

pub overflow_add-result-2 : goal.overflow_add-result-2
overflow_add-result-2 c = omega (arith, small (goal.at.overflow_add-result-2 c).Start)
