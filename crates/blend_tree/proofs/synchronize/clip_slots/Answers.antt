-- `blend_tree::synchronize::clip_slots` meets its contract. Invariant: the slots below i are filled, and `next` is the clip node that comes at i. Assumes nothing.
use borrow.Author.Rules.{rules}
use borrow.Author.Count.{below_none}
use Prim.Native.Nat.{◌≤◌, ◌<◌}
use mathlib.Core.Path.{◌∙◌}
use native.Mathlib.Numerals.{add-one}
use native.Mathlib.Omega.{arith}
use lib.ListN.{length, length-set}
use Rattle.model.specs.Plan.{max_nodes, max_clip_nodes}
use Rattle.model.proofs.Laws.ClipNodes.{first_clip_node}
use Rattle.layout.proofs.Laws.{laid_passes, nodes_counted, clips_counted, nodes_few}
use Rattle.blend_tree.proofs.SynchronizeLaws.{filled_more, few_next}
use Rattle.blend_tree.proofs.synchronize.clip_slots.Goals as goal
use Rattle.blend_tree.proofs.synchronize.clip_slots.Goals.{At-loop-i}

pub loop-i-init : goal.loop-i-init
loop-i-init c = (search rules, clips_counted c.args.state.now.place ∙ first_clip_node _ _, below_none _)

few : (c : At-loop-i) → c.args.state.now.here.nodes ≤ max_nodes
few c = let state = c.args.state.now in nodes_few state.place (laid_passes state.plan.laid)

small : (c : At-loop-i) → c.loop-i.next ≤ max_clip_nodes
small c =
    let state = c.args.state.now in
    omega (arith, c.loop-i.invariant.1, few_next (laid_passes state.plan.laid) state.place c.loop-i.i c.loop-i.auto.i-end)

pub overflow_cast-slots : goal.overflow_cast-slots
overflow_cast-slots c = omega (arith, small (goal.at.overflow_cast-slots c).At-loop-i)

pub bounds-slots-i : goal.bounds-slots-i
bounds-slots-i c = omega (arith, few (goal.at.bounds-slots-i c).At-loop-i)

pub next_clip_node-next-requires : goal.next_clip_node-next-requires
next_clip_node-next-requires c =
    (c.loop-i-test.true, omega (arith, small (goal.at.next_clip_node-next-requires c).At-loop-i), c.loop-i.invariant.1)

pub loop-i-preserved : goal.loop-i-preserved
loop-i-preserved c =
    let there : c.loop-i.i < length c.loop-i.slots = omega (arith, few (goal.at.loop-i-preserved c).At-loop-i) in
    (rw length-set c.loop-i.invariant.0, rw add-one c.next_clip_node-next.ensures.0, filled_more c.loop-i.slots _ _ _ there c.loop-i.invariant.2 c.loop-i.invariant.1)

pub returns : goal.returns
returns c =
    record { slot = λ i h. c.loop-i.invariant.2 i (omega (arith, nodes_counted c.args.state.now.place)) }
