-- `skeleton::set_own_matrices` meets its contract: after i turns it is kept for the first i lanes. Assumes nothing.
use mathlib.Core.Path.{◌≡◌}
use lib.ListN.{length}
use Rattle.skeleton.specs.Buffer.{OwnMatrices}
use Rattle.skeleton.proofs.set_own_matrices.Given as goal

abbrev pub invariant-loop-i : goal.invariant-loop-i
invariant-loop-i l = record { same : length l.output ≡ length l.initial.output; own : OwnMatrices l.kind l.block l.joints.first l.i l.initial.output l.output }
