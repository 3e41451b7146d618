-- `blend_tree::synchronize::next_clip_node` meets its contract: the node counts where its kind is a clip's. Assumes nothing.
use mathlib.Core.Path.{◌∙◌, ap}
use Prim.Native.Nat.{◌+◌}
use native.Mathlib.Omega.{arith}
use Rattle.model.proofs.Laws.ClipNodes.{clip_counts, blend_counts_not}
use Rattle.layout.proofs.NodeLaws.{is_clip_lem, no_clip}
use Rattle.blend_tree.proofs.synchronize.next_clip_node.Goals as goal

pub returns-in-Clip : goal.returns-in-Clip
returns-in-Clip c =
    (ap (λ k. k + 1) c.requires.2 ∙ clip_counts _ _ _ (is_clip_lem _ _ _ c.node.ensures c.in-Clip.is), omega arith)

pub returns-in_default : goal.returns-in_default
returns-in_default c =
    (c.requires.2 ∙ blend_counts_not _ _ _ (no_clip _ _ _ c.node.ensures c.in_default.not-Clip), omega arith)
