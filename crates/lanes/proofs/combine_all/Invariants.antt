-- `lanes::combine_all` meets its contract. Invariant: the lanes below i are combined, the others as at the loop's entry. Assumes nothing.
use Prim.Native.Nat.{ℕ, ◌≤◌, ◌<◌}
use mathlib.Core.Path.{◌≡◌}
use lib.ListN.{length}
use Rattle.lanes.specs.Lanes.{block_size, lane_at}
use Rattle.lanes.proofs.combine_all.Given as goal

abbrev pub invariant-loop-i : goal.invariant-loop-i
invariant-loop-i g l =
    record {
      size : length l.x ≡ block_size;
      done : (k : ℕ) → k < l.i → goal.F-post g l.combine (lane_at l.initial.x k) (lane_at l.y k) (lane_at l.x k);
      rest : (k : ℕ) → l.i ≤ k → lane_at l.x k ≡ lane_at l.initial.x k;
    }
