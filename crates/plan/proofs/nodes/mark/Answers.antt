-- `plan::nodes::mark` meets its contract: a clip node has no inputs, and any other has two, which can be marked. Assumes nothing.
use mathlib.Core.Path.{◌≡◌}
use mathlib.Core.Bool.{false}
use native.Mathlib.Omega.{arith}
use lib.Dec.{eqb}
use Rattle.model.specs.Plan.{word}
use Rattle.layout.proofs.NodeLaws.{clip_word, blend_word}
use Rattle.plan.specs.Parts.{marks_after}
use Rattle.plan.proofs.nodes.mark.Goals as goal
use Rattle.plan.proofs.nodes.mark.Goals.{In-Lerp}

pub returns-in-Clip : goal.returns-in-Clip
unfolding marks_after
returns-in-Clip c = rw (← c.word.ensures.0, clip_word _ _ c.from.ensures c.in-Clip.is)

blend : (c : In-Lerp) → let a = c.args in eqb (word a.plan.now a.at) 0 ≡ false
blend c = rw (← c.word.ensures.0) (blend_word _ _ c.from.ensures c.in-Lerp.is)

pub bounds-used-word : goal.bounds-used-word
bounds-used-word c = omega (arith, c.requires.1.a (blend (goal.at.bounds-used-word c).In-Lerp), c.word-in-Lerp.ensures.0)

pub bounds-used-word-in-Lerp : goal.bounds-used-word-in-Lerp
bounds-used-word-in-Lerp c = omega (arith, c.requires.1.b (blend (goal.at.bounds-used-word-in-Lerp c).In-Lerp), c.word-in-Lerp-2.ensures.0)

pub returns-in-Lerp : goal.returns-in-Lerp
unfolding marks_after
returns-in-Lerp c = rw (blend (goal.at.returns-in-Lerp c).In-Lerp, c.word-in-Lerp.ensures.0, c.word-in-Lerp-2.ensures.0)
