-- `plan::words::check_parent` meets its contract: an earlier joint, or else the root's test. Assumes nothing.
use borrow.Author.Tests.{lt-ltb, le-ltb}
use mathlib.Core.Path.{◌≡◌, ◌∙◌}
use mathlib.Core.Bool.{◌||◌, or-true, or-false}
use lib.Dec.{ltb}
use Rattle.model.specs.Plan.{parent, is_root_word, is_root}
use Rattle.model.specs.Check.{check_parent}
use Rattle.plan.proofs.words.check_parent.Goals as goal
use Rattle.plan.proofs.words.check_parent.Goals.{Joined-parent-j, then-parent-j, else-parent-j}

good : (c : Joined-parent-j) → let a = c.args in c.if-parent-j.good ≡ is_root_word a.joints c.word-parent.result || ltb c.word-parent.result a.j
good c =
    let p = c.word-parent.result in
    let a = c.args in
    elim c.if-parent-j.branch [ then-parent-j w ↦ w.good-is ∙ rw (lt-ltb p a.j w.if-parent-j.true, or-true) | else-parent-j w ↦ w.good-is ∙ w.is_root-good.ensures ∙ rw (le-ltb p a.j w.if-parent-j.false, or-false) ]

pub returns : goal.returns
unfolding check_parent is_root parent
returns c =
    c.word_is.ensures ∙ rw (good (goal.at.returns c).Joined-parent-j, c.word-parent.ensures.0, c.requires.0)
