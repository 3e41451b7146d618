-- `blend_tree::StateAt::is_touched` meets its contract: test by test. The inputs of a node that is no clip are nodes. Assumes nothing.
use Prim.Native.Nat.{◌<◌}
use mathlib.Core.Path.{sym, ◌∙◌}
use Rattle.layout.proofs.NodeLaws.{inputs_inside}
use Rattle.blend_tree.proofs.NodeLaws.{node_read}
use Rattle.blend_tree.proofs.SynchronizeLaws.{lerp_no_clip, other_untouched, lerp_touched}
use Rattle.blend_tree.proofs.StateAt.is_touched.Goals as goal
use Rattle.blend_tree.proofs.StateAt.is_touched.Goals.{In-Lerp}

inputs : (c : In-Lerp) → let here = c.args.self.now.here in let words = c.node-words.result in (words.a < here.nodes) × (words.b < here.nodes)
inputs c =
    let e = c.node-words.ensures in
    inputs_inside (node_read c.args.self.now c.requires e) (lerp_no_clip _ _ _ e c.in-Lerp.is)

pub plays_samples-requires : goal.plays_samples-requires
plays_samples-requires c = (inputs (goal.at.plays_samples-requires c).In-Lerp).0

pub plays_samples-requires-then-plays_samples : goal.plays_samples-requires-then-plays_samples
plays_samples-requires-then-plays_samples c = (inputs (goal.at.plays_samples-requires-then-plays_samples c).In-Lerp).1

pub returns-then-plays_samples : goal.returns-then-plays_samples
returns-then-plays_samples c =
    sym
    (lerp_touched _ _ _ c.node-words.ensures c.in-Lerp.is
    ∙ rw (sym c.plays_samples.ensures ∙ c.if-plays_samples.true, c.plays_samples-then-plays_samples.ensures))

pub returns-else-plays_samples : goal.returns-else-plays_samples
returns-else-plays_samples c =
    sym (lerp_touched _ _ _ c.node-words.ensures c.in-Lerp.is ∙ rw (sym c.plays_samples.ensures ∙ c.if-plays_samples.false, c.if-plays_samples.false))

pub returns-in_default : goal.returns-in_default
returns-in_default c = other_untouched _ _ _ c.node-words.ensures c.in_default.not-Lerp
