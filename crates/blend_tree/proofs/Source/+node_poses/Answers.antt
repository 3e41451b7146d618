-- `blend_tree::Source::node_poses` meets its contract, by recursion on the node: the check has seen that a clip node's clip and instance are there, and
-- that another node's inputs come before it and its parameter is there. Assumes nothing.
use Prim.Native.Nat.{ℕ, ◌+◌}
use native.Mathlib.Omega.{arith}
use mathlib.Core.Path.{◌≡◌, ap, ◌∙◌}
use borrow.Author.Rules.{rules}
use Rattle.model.specs.Pose.{lerp}
use Rattle.model.specs.Tree.{parameter, additive}
use Rattle.lanes.specs.Lanes.{lane_at}
use Rattle.model.specs.Clips.{instance_at}
use Rattle.layout.proofs.NodeLaws.{node_small, NodeRead, is_clip_lem, no_clip, clip_inside, inputs_before, parameter_small}
use Rattle.blend_tree.proofs.NodeLaws.{passes, node_read, slot_found, slot_small}
use Rattle.blend_tree.proofs.PoseLaws.{of_clip, of_lerp, of_additive}
use Rattle.blend_tree.proofs.Source.+node_poses.Goals as goal
use Rattle.blend_tree.proofs.Source.+node_poses.Goals.{After-node-words}

read : (t : ℕ) (c : After-node-words t) → NodeRead c.args.self.now.state.figure.plan.words.now c.args.self.now.state.here c.args.node c.node-words.result
read t c = node_read c.args.self.now.state c.requires.1 c.node-words.ensures

pub bounds-self-node : goal.bounds-self-node
bounds-self-node t c =
    let at = c.args.self.now.state in
    omega (arith, node_small (passes at) at.place c.requires.1)

-- a clip node's instance is there
pub instance_at-instance-requires : goal.instance_at-instance-requires
instance_at-instance-requires t c =
    slot_small c.args.self.now.state c.requires.1 c.args.self.now.filled (is_clip_lem _ _ _ c.node-words.ensures c.in-Clip.is)

pub clip_poses-requires : goal.clip_poses-requires
clip_poses-requires t c =
    (clip_inside (read t (goal.at.clip_poses-requires t c).After-node-words) (is_clip_lem _ _ _ c.node-words.ensures c.in-Clip.is), c.requires.0)

pub returns-in-Clip : goal.returns-in-Clip
returns-in-Clip t c j h =
    let from = c.args.self.now in
    let at = from.state in
    c.clip_poses.ensures j h
    ∙ of_clip (read t (goal.at.returns-in-Clip t c).After-node-words) at.figure.numbers.now from.parameters.now at.time from.instances.now (c.args.joints.first + j) (is_clip_lem _ _ _ c.node-words.ensures c.in-Clip.is)
    (c.instance_at-instance.ensures ∙ ap (instance_at from.instances.now) (slot_found at c.requires.1 from.filled))

pub node_poses-requires : goal.node_poses-requires
node_poses-requires t c =
    let less = inputs_before (read t (goal.at.node_poses-requires t c).After-node-words) (no_clip _ _ _ c.node-words.ensures c.in_default.not-Clip) in
    (omega (arith, less, c.decreases), (c.requires.0, omega (arith, less, c.requires.1)))

pub node_poses-requires-2 : goal.node_poses-requires-2
node_poses-requires-2 t c =
    let less = inputs_before (read t (goal.at.node_poses-requires-2 t c).After-node-words) (no_clip _ _ _ c.node-words.ensures c.in_default.not-Clip) in
    (omega (arith, less, c.decreases), (c.requires.0, omega (arith, less, c.requires.1)))

-- the parameter, after both inputs
pub offset_bounds-self-words : goal.offset_bounds-self-words
offset_bounds-self-words t c =
    let r = read t (goal.at.offset_bounds-self-words t c).After-node-words in
    omega (arith, parameter_small r (no_clip _ _ _ r.found c.in_default.not-Clip))

pub bounds-self-words : goal.bounds-self-words
bounds-self-words t c =
    let r = read t (goal.at.bounds-self-words t c).After-node-words in
    omega (arith, parameter_small r (no_clip _ _ _ r.found c.in_default.not-Clip))

pub returns-in-Lerp : goal.returns-in-Lerp
returns-in-Lerp t c j h =
    let from = c.args.self.now in
    let at = from.state in
    let made : lane_at c.combine_all.new.x j ≡ lerp (lane_at c.node_poses.new.block j) (lane_at c.node_poses-2.new.block j) (parameter from.parameters.now c.node-words.result.parameter) =
    search (rules, c.combine_all.ensures j h) in
    made
    ∙ of_lerp (read t (goal.at.returns-in-Lerp t c).After-node-words) at.figure.numbers.now from.parameters.now at.time from.instances.now (c.args.joints.first + j) (c.node_poses.ensures j h) (c.node_poses-2.ensures j h) c.in-Lerp.is

pub returns-in_default-kind : goal.returns-in_default-kind
returns-in_default-kind t c j h =
    let from = c.args.self.now in
    let at = from.state in
    let made : lane_at c.combine_all-in_default-kind.new.x j ≡ additive (lane_at c.node_poses.new.block j) (lane_at c.node_poses-2.new.block j) (parameter from.parameters.now c.node-words.result.parameter) =
    search (rules, c.combine_all-in_default-kind.ensures j h) in
    made
    ∙ of_additive (read t (goal.at.returns-in_default-kind t c).After-node-words) at.figure.numbers.now from.parameters.now at.time from.instances.now (c.args.joints.first + j) (c.node_poses.ensures j h) (c.node_poses-2.ensures j h) c.in_default.not-Clip c.in_default-kind.not-Lerp
