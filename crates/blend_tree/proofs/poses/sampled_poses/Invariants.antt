-- `blend_tree::poses::sampled_poses` meets its contract. Invariant: the lanes below i hold their poses. Assumes nothing.
use Prim.Native.Nat.{◌+◌}
use mathlib.Core.Path.{◌≡◌}
use lib.ListN.{length}
use Rattle.lanes.specs.Lanes.{block_size}
use Rattle.blend_tree.specs.Sampling.{pose_between}
use Rattle.blend_tree.specs.Blocks.{Filled}
use Rattle.blend_tree.proofs.poses.sampled_poses.Given as goal

abbrev pub invariant-loop-i : goal.invariant-loop-i
invariant-loop-i l =
    record {
      size : length l.block ≡ block_size;
      done : Filled (λ k. pose_between l.fn.figure.numbers.now l.fn.figure.plan.layout l.fn.samples (l.fn.joints.first + k)) l.i l.block;
    }
