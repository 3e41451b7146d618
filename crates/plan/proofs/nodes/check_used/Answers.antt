-- `plan::nodes::check_used` meets its contract: a node without a mark is refused wherever it stands. Assumes nothing.
use native.Mathlib.Omega.{arith}
use mathlib.Core.Path.{◌≡◌, refl, sym}
use mathlib.Core.Bool.{Bool, true, false, beq}
use Rattle.model.specs.Answers.{values}
use Rattle.plan.proofs.NodeLaws.{all_used, one_unused}
use Rattle.plan.proofs.nodes.check_used.Goals as goal

mark_is_not : (mark : Bool) → beq mark false ≡ true → mark ≡ false
mark_is_not false e = refl
mark_is_not true e = cc

mark_is : (mark : Bool) → beq mark false ≡ false → mark ≡ true
mark_is false e = cc
mark_is true e = refl

pub returns-then-contains : goal.returns-then-contains
unfolding values
returns-then-contains c =
    let (k, inside, none) = c.if-contains.ensures.cases in
    rw c.at.ensures (sym (one_unused c.args.used.now c.args.place _ k inside (mark_is_not _ (none false))))

pub returns : goal.returns
unfolding values
returns c = all_used c.args.used.now c.args.place _ (λ k h. mark_is _ (c.if-contains.ensures.cases k false (omega arith) h))
