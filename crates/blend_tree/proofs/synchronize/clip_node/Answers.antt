-- `blend_tree::synchronize::clip_node` meets its contract. Invariant: `next` is the clip node that comes at k. Assumes nothing.
use mathlib.Core.Path.{◌∙◌}
use Prim.Native.Nat.{◌<◌}
use native.Mathlib.Omega.{arith}
use Rattle.model.proofs.Laws.ClipNodes.{first_clip_node}
use Rattle.layout.proofs.Laws.{laid_passes, clips_counted}
use Rattle.blend_tree.proofs.SynchronizeLaws.{few_next}
use Rattle.blend_tree.proofs.synchronize.clip_node.Goals as goal

pub loop-k-init : goal.loop-k-init
loop-k-init c = clips_counted c.args.state.now.place ∙ first_clip_node _ _

pub next_clip_node-next-requires : goal.next_clip_node-next-requires
next_clip_node-next-requires c =
    let state = c.args.state.now in
    let below : c.loop-k.k < state.here.nodes = omega arith in
    (below, omega (arith, c.loop-k.invariant, few_next (laid_passes state.plan.laid) state.place c.loop-k.k (omega arith)), c.loop-k.invariant)
