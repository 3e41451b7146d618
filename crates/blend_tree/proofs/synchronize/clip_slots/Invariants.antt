-- `blend_tree::synchronize::clip_slots` meets its contract. Invariant: the slots below i are filled, and `next` is the clip node that comes at i. Assumes nothing.
use Prim.Native.Nat.{ℕ, suc, ◌<◌}
use mathlib.Core.Path.{◌≡◌}
use lib.ListN.{length, get_or}
use Rattle.model.specs.Plan.{max_nodes, clip_node_at}
use Rattle.blend_tree.proofs.synchronize.clip_slots.Given as goal

abbrev pub invariant-loop-i : goal.invariant-loop-i
invariant-loop-i l =
    (length l.slots ≡ suc max_nodes) × (l.next ≡ clip_node_at l.state.plan.words.now l.state.here.state l.i) × ((k : ℕ) → k < l.i → get_or l.slots k 0 ≡ clip_node_at l.state.plan.words.now l.state.here.state k)
