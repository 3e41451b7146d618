-- What is known of a state's node, and of its slot. Assumes nothing.
use Prim.Native.Nat.{ℕ, ◌<◌}
use mathlib.Core.Path.{◌≡◌}
use mathlib.Core.Bool.{true}
use mathlib.Core.List.{List}
use lib.ListN.{get_or}
use Rattle.model.specs.Plan.{max_clip_nodes, is_clip, clip_node_at}
use Rattle.model.proofs.Laws.State.{few_clip_nodes}
use Rattle.layout.specs.declared.Node.{Node}
use Rattle.layout.specs.Layout.{Passes, node_of}
use Rattle.layout.proofs.Laws.{laid_passes, here_ok}
use Rattle.layout.proofs.NodeLaws.{NodeRead, node_counted}
use Rattle.blend_tree.specs.declared.StateAt.{StateAt}
use Rattle.blend_tree.specs.Slots.{Slots}

module _ (at : StateAt) where
  pub passes : Passes at.figure.plan.words.now
  passes = laid_passes at.figure.plan.laid

  module _ {i : ℕ} (below : i < at.here.nodes) where
    -- its words, as `node` gives them
    pub node_read : {words : Node} → words ≡ node_of at.figure.plan.words.now at.here.state i → NodeRead at.figure.plan.words.now at.here i words
    node_read found = record { passes = passes; state = at.place; below = below; found = found }

    -- its slot
    module _ {slots : List ℕ} (filled : Slots at.figure.plan.words.now at.here.state slots) where
      pub slot_found : get_or slots i 0 ≡ clip_node_at at.figure.plan.words.now at.here.state i
      slot_found = filled.slot i (node_counted passes at.place below)

      -- a clip node's instance is one of the player's
      pub slot_small : is_clip at.figure.plan.words.now at.here.state i ≡ true → get_or slots i 0 < max_clip_nodes
      slot_small e = rw slot_found (few_clip_nodes at.figure.plan.words.now at.here.state (here_ok at.place passes) i (node_counted passes at.place below) e)
