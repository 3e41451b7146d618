-- `skeleton::set_own_matrices` meets its contract: after i turns it is kept for the first i lanes. Assumes nothing.
use mathlib.Core.Path.{refl, ◌∙◌}
use Rattle.skeleton.proofs.Laws.{no_own, one_own_more}
use Rattle.skeleton.proofs.set_own_matrices.Goals as goal

pub loop-i-init : goal.loop-i-init
loop-i-init c = record { same = refl; own = no_own _ _ _ _ }

pub loop-i-preserved : goal.loop-i-preserved
loop-i-preserved c =
    let l = c.loop-i in
    record {
      same = c.set_matrix.auto.buffer ∙ l.invariant.same;
      own = one_own_more _ _ _ l.invariant.own (c.own_matrix-own.ensures ∙ rw c.to_matrix.ensures) (c.set_matrix.ensures ∙ rw c.output_at.ensures);
    }
