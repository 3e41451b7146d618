-- `loops::count_at` meets its contract: each return is one of the verdict's cases. Assumes nothing.
use Prim.Native.Nat.{◌<◌}
use native.Mathlib.Omega.{arith}
use mathlib.Core.Path.{◌≡◌, refl}
use mathlib.Core.Bool.{true}
use Rattle.model.specs.Plan.{state_count, clip_count, input_a}
use Rattle.model.specs.Loops.{is_clip_node}
use Rattle.model.proofs.Laws.State.{few_clip_nodes}
use Rattle.layout.proofs.Laws.{laid_passes, states_found, in_plan, here_ok}
use Rattle.layout.proofs.NodeLaws.{NodeRead, is_clip_lem, clip_inside, node_counted}
use Rattle.blend_tree.proofs.SamplingLaws.{clip_sized}
use Rattle.loops.proofs.Laws.{no_clip_node, not_looping, node_counted as node-counted', no_state, no_node, no_clip_there, clip_there, clip_named, samples_counted, empty_not_looping, stopping_not_looping, looping, index_is}
use Rattle.loops.proofs.count_at.Goals as goal
use Rattle.loops.proofs.count_at.Goals.{After-node-words, Else-state-figure, In-Clip}

-- ---- the state, past the first test
below : (c : Else-state-figure) → c.args.state < state_count c.args.figure.now.plan.words.now
below c = omega (arith, c.if-state-figure.false, states_found _ c.args.figure.now.plan.laid.found)

-- ---- the node, past the second
read : (c : After-node-words) → NodeRead c.args.figure.now.plan.words.now c.state-state.result.here c.args.node c.node-words.result
read c = record {
  passes = laid_passes c.args.figure.now.plan.laid;
  state = in_plan _ _ c.state-state.ensures.here (below (goal.at.After-node-words c).Else-state-figure);
  below = c.if-node-state.false;
  found = rw c.state-state.ensures.plan at c.node-words.ensures;
}

-- ---- its clip, past the third
clip-node : (c : In-Clip) → is_clip_node c.args.figure.now.plan.words.now c.args.state c.args.node ≡ true
clip-node c =
    clip_there _ _ _ (below (goal.at.In-Clip c).Else-state-figure) c.state-state.ensures.here c.if-node-state.false (read (goal.at.In-Clip c).After-node-words).found c.in-Clip.is

-- the clip that the node names
named-inside : (c : In-Clip) → c.node-words.result.a < clip_count c.args.figure.now.plan.words.now
named-inside c = let r = read (goal.at.In-Clip c).After-node-words in clip_inside r (is_clip_lem _ _ _ r.found c.in-Clip.is)

named : (c : In-Clip) → c.node-words.result.a ≡ input_a c.args.figure.now.plan.words.now c.args.state c.args.node
named c = clip_named _ _ _ (below (goal.at.In-Clip c).Else-state-figure) c.state-state.ensures.here c.if-node-state.false (read (goal.at.In-Clip c).After-node-words).found

pub returns-then-state-figure : goal.returns-then-state-figure
returns-then-state-figure c = no_clip_node _ _ (no_state _ c.args.figure.now.plan.laid.found _ _ c.if-state-figure.true) _ refl

pub state-state-requires : goal.state-state-requires
state-state-requires c = below c

pub returns-then-node-state : goal.returns-then-node-state
returns-then-node-state c =
    no_clip_node _ _ (no_node _ _ _ (below (goal.at.returns-then-node-state c).Else-state-figure) c.state-state.ensures.here c.if-node-state.true) _ refl

pub returns-in_default : goal.returns-in_default
returns-in_default c =
    no_clip_node _ _ (no_clip_there _ _ _ (below (goal.at.returns-in_default c).Else-state-figure) c.state-state.ensures.here c.if-node-state.false (read (goal.at.returns-in_default c).After-node-words).found c.in_default.not-Clip) _ refl

pub clip_at-clip-requires : goal.clip_at-clip-requires
clip_at-clip-requires c = named-inside c

pub returns-then-clip-eq0 : goal.returns-then-clip-eq0
returns-then-clip-eq0 c =
    let k = (goal.at.returns-then-clip-eq0 c).In-Clip in
    not_looping _ _ (clip-node k) (empty_not_looping _ _ (named k) c.clip_at-clip.ensures c.if-clip-eq0.true) _ refl

pub returns-then-clip : goal.returns-then-clip
returns-then-clip c =
    let k = (goal.at.returns-then-clip c).In-Clip in
    not_looping _ _ (clip-node k) (stopping_not_looping _ _ (named k) c.clip_at-clip.ensures c.if-clip.true) _ refl

pub instance_at-instance-requires : goal.instance_at-instance-requires
instance_at-instance-requires c =
    let r = read (goal.at.instance_at-instance-requires c).After-node-words in
    rw (c.clip_node.ensures, c.state-state.ensures.plan)
    (few_clip_nodes _ _ (here_ok r.state r.passes) _ (node_counted r.passes r.state r.below) (is_clip_lem _ _ _ r.found c.in-Clip.is))

pub clip_position-position-requires : goal.clip_position-position-requires
clip_position-position-requires c =
    clip_sized c.args.figure.now (named-inside (goal.at.clip_position-position-requires c).In-Clip) c.clip_at-clip.ensures c.if-clip-eq0.false

pub returns : goal.returns
returns c =
    let k = (goal.at.returns c).In-Clip in
    let some = c.if-clip-eq0.false in
    let on = c.if-clip.false in
    node-counted' _ _ (clip-node k) (looping _ _ (named k) c.clip_at-clip.ensures some on) (samples_counted _ _ (named k) c.clip_at-clip.ensures)
    (index_is _ _ (named k) c.clip_at-clip.ensures some on c.args.instances.now _ _ c.state-state.ensures.here (rw c.state-state.ensures.plan at c.clip_node.ensures) c.instance_at-instance.ensures _ c.clip_position-position.ensures c.played_index.ensures)
    c.index_counted.ensures
