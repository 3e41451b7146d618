-- `blend_tree::StateAt::synchronize_node` meets its contract: the inputs of a node that is touched are clip nodes of the state. Assumes nothing.
use Prim.Native.Nat.{◌<◌}
use mathlib.Core.Path.{◌≡◌, sym, ◌∙◌}
use mathlib.Core.Bool.{true}
use native.Mathlib.Omega.{arith}
use Rattle.model.specs.Plan.{max_parameters, is_clip}
use Rattle.model.specs.Tree.{is_touched, synchronize_node, synchronized_rate}
use Rattle.layout.proofs.NodeLaws.{node_small, inputs_inside, parameter_small}
use Rattle.blend_tree.proofs.NodeLaws.{passes, node_read, slot_found, slot_small}
use Rattle.blend_tree.proofs.SynchronizeLaws.{touched_inputs, both_synchronized}
use Rattle.blend_tree.proofs.StateAt.synchronize_node.Goals as goal
use Rattle.blend_tree.proofs.StateAt.synchronize_node.Goals.{After-node-a}

touched : (c : After-node-a) → let a = c.args in is_touched a.self.now.figure.plan.words.now a.self.now.here.state a.i ≡ true
touched c = sym c.is_touched.ensures ∙ c.if-not-is_touched.false

-- both inputs are clip nodes of the state, and the parameter is one of the player's
known : (c : After-node-a)
    → let at = c.args.self.now in
    let plan = at.figure.plan.words.now in
    let n = c.node-a.result in
    (n.a < at.here.nodes) × (is_clip plan at.here.state n.a ≡ true) × (n.b < at.here.nodes) × (is_clip plan at.here.state n.b ≡ true) × (n.parameter < max_parameters)
known c =
    let e = c.node-a.ensures in
    let t = touched_inputs _ _ _ e (touched c) in
    let r = node_read c.args.self.now c.requires.1 e in
    ((inputs_inside r t.0).0, t.1, (inputs_inside r t.0).1, t.2, parameter_small r t.0)

pub returns-then-not-is_touched : goal.returns-then-not-is_touched
unfolding synchronize_node
returns-then-not-is_touched c = rw (sym c.is_touched.ensures ∙ c.if-not-is_touched.true)

pub node_length-length_a-requires : goal.node_length-length_a-requires
node_length-length_a-requires c = ((known c).0, (known c).1)

pub node_length-length_b-requires : goal.node_length-length_b-requires
node_length-length_b-requires c =
    let k = known (goal.at.node_length-length_b-requires c).After-node-a in
    (k.2, k.3)

pub offset_bounds-parameters-parameter : goal.offset_bounds-parameters-parameter
offset_bounds-parameters-parameter c = omega (arith, known (goal.at.offset_bounds-parameters-parameter c).After-node-a)

pub bounds-parameters-parameter : goal.bounds-parameters-parameter
bounds-parameters-parameter c = (known (goal.at.bounds-parameters-parameter c).After-node-a).4

pub bounds-slots-a : goal.bounds-slots-a
bounds-slots-a c =
    let at = c.args.self.now in
    omega (arith, node_small (passes at) at.place (known (goal.at.bounds-slots-a c).After-node-a).0)

pub set_rate-requires : goal.set_rate-requires
set_rate-requires c =
    let k = known (goal.at.set_rate-requires c).After-node-a in
    slot_small c.args.self.now k.0 c.requires.0 k.1

pub bounds-slots-b : goal.bounds-slots-b
bounds-slots-b c =
    let at = c.args.self.now in
    omega (arith, node_small (passes at) at.place (known (goal.at.bounds-slots-b c).After-node-a).2)

pub set_rate-requires-2 : goal.set_rate-requires-2
set_rate-requires-2 c =
    let k = known (goal.at.set_rate-requires-2 c).After-node-a in
    slot_small c.args.self.now k.2 c.requires.0 k.3

pub returns : goal.returns
unfolding synchronized_rate
returns c =
    let k = known (goal.at.returns c).After-node-a in
    both_synchronized _ _ _ c.node-a.ensures _ _ _ _ _ _ _ _ _ _ _ (touched (goal.at.returns c).After-node-a) c.node_length-length_a.ensures c.node_length-length_b.ensures c.target_length-target.ensures
    (slot_found c.args.self.now k.0 c.requires.0) (slot_found c.args.self.now k.2 c.requires.0) c.set_rate.ensures c.set_rate-2.ensures
