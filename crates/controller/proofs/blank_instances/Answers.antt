-- `controller::blank_instances` meets its contract. Invariant: the first n instances are blank, and zeros follow. Assumes nothing.
use native.Mathlib.Omega.{arith}
use mathlib.Core.Path.{◌≡◌, refl, ◌∙◌}
use mathlib.Core.List.{append-nil}
use Rattle.model.specs.Plan.{max_clip_nodes}
use Rattle.model.specs.Clips.{blank_instances}
use Rattle.controller.proofs.Laws.{blank_next}
use Rattle.controller.proofs.blank_instances.Goals as goal

pub loop-n-init : goal.loop-n-init
unfolding blank_instances
loop-n-init c = refl

pub loop-n-preserved : goal.loop-n-preserved
loop-n-preserved c = blank_next _ _ c.loop-n-test.true c.loop-n.invariant

pub returns : goal.returns
returns c =
    let e : c.loop-n.n ≡ max_clip_nodes = omega arith in
    rw e at c.loop-n.invariant ∙ append-nil (blank_instances max_clip_nodes)
