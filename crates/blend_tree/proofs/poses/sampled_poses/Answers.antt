-- `blend_tree::poses::sampled_poses` meets its contract. Invariant: the lanes below i hold their poses. Assumes nothing.
use Prim.Native.Nat.{◌+◌, ◌*◌, ◌≤◌}
use native.Mathlib.Omega.{arith}
use mathlib.Core.Path.{◌≡◌}
use lib.ListN.{length, length-set}
use Rattle.std.proofs.lemmas.Grind.{common_steps}
use Rattle.blend_tree.specs.Sampling.{pose_between}
use Rattle.blend_tree.proofs.SamplingLaws.{samples_small, row_start, row_inside}
use Rattle.blend_tree.proofs.poses.sampled_poses.Goals as goal
use Rattle.blend_tree.proofs.poses.sampled_poses.Goals.{In-loop-i}

pub pose_at-low-requires : goal.pose_at-low-requires
pose_at-low-requires c = omega (arith, samples_small c.requires.0, c.requires.1.inside)

pub pose_at-high-requires : goal.pose_at-high-requires
pose_at-high-requires c = omega (arith, samples_small c.requires.0, c.requires.1.inside)

-- in a turn both poses are there
inside : (c : In-loop-i)
    → let n = length c.args.figure.now.numbers.now in
    (c.pose_at-low.result + 8 * c.loop-i.i + 8 ≤ n) × (c.pose_at-high.result + 8 * c.loop-i.i + 8 ≤ n)
inside c = row_inside c.requires.0 c.requires.1 c.pose_at-low.ensures c.pose_at-high.ensures c.loop-i-test.true

pub overflow_add-low : goal.overflow_add-low
overflow_add-low c = omega (arith, inside (goal.at.overflow_add-low c).In-loop-i)

pub overflow_add-high : goal.overflow_add-high
overflow_add-high c = omega (arith, inside (goal.at.overflow_add-high c).In-loop-i)

pub pose_between-requires : goal.pose_between-requires
pose_between-requires c = inside (goal.at.pose_between-requires c).In-loop-i

pub loop-i-preserved : goal.loop-i-preserved
unfolding pose_between
loop-i-preserved c =
    let figure = c.args.figure.now in
    let p = c.args.samples in
    let first = c.args.joints.first in
    let here : c.pose_between.result ≡ pose_between figure.numbers.now figure.plan.layout p (first + c.loop-i.i) =
    rw (c.pose_between.ensures, c.pose_at-low.ensures, c.pose_at-high.ensures, row_start figure.plan.layout p.first first c.loop-i.i, row_start figure.plan.layout p.second first c.loop-i.i) in
    record { size = rw length-set c.loop-i.invariant.size; done = grind (arith, common_steps, c.loop-i.invariant.done, here) }
