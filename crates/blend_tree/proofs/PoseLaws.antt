-- The pose of a node from its clip's samples or from those of its inputs, over plain values. Assumes nothing.
use Prim.Native.Nat.{ℕ, suc, ◌-◌, ◌<◌}
use native.Mathlib.Omega.{arith}
use mathlib.Core.Path.{◌≡◌, sym, ◌∙◌}
use mathlib.Core.Bool.{true}
use mathlib.Core.List.{List}
use lib.ListN.{get_or}
use lib.Ieee.{Float}
use Rattle.model.specs.declared.Pose.{Pose}
use Rattle.model.specs.declared.ClipInstance.{ClipInstance}
use Rattle.model.specs.Plan.{is_clip, clip_node_at}
use Rattle.model.specs.Pose.{identity_pose, lerp}
use Rattle.model.specs.Clips.{local_time, instance_at, clip_pose}
use Rattle.model.specs.Tree.{parameter, additive, node_pose, node_poses, state_pose}
use Rattle.model.proofs.Laws.Table.{table_at}
use Rattle.model.proofs.Laws.State.{some_nodes}
use Rattle.layout.specs.declared.Kind.TheVariants as kind
use Rattle.layout.specs.declared.StateLayout.{StateLayout}
use Rattle.layout.specs.declared.Node.{Node}
use Rattle.layout.specs.Layout.{node_of}
use Rattle.layout.proofs.Laws.{here_ok, nodes_counted}
use Rattle.blend_tree.specs.declared.StateAt.{StateAt}
use Rattle.blend_tree.specs.Blocks.{pose_of_node}
use Rattle.layout.proofs.NodeLaws.{NodeRead, no_clip, is_lerp_lem, no_lerp, inputs_before}
use Rattle.blend_tree.proofs.NodeLaws.{passes}

-- ---- the pose of a node, from those of its inputs

module _ {plan : List ℕ} {here : StateLayout} {i : ℕ} {words : Node} (r : NodeRead plan here i words) where
  module _ (numbers parameters : List Float) (time : Float) (instances : List Float) (j : ℕ) where
    abbrev pose_of : ℕ → Pose
    pose_of n = pose_of_node plan numbers parameters time here.state instances n j

    by_table : (n : ℕ) → pose_of n ≡ node_pose plan numbers parameters time here.state instances j (node_poses plan numbers parameters time here.state instances j n) n
    unfolding node_poses
    by_table n = table_at (node_pose plan numbers parameters time here.state instances j) (suc n) identity_pose n (omega arith)

    input : (n : ℕ) → n < i → get_or (node_poses plan numbers parameters time here.state instances j i) n identity_pose ≡ pose_of n
    unfolding node_poses
    input n h = table_at (node_pose plan numbers parameters time here.state instances j) i identity_pose n h ∙ sym (by_table n)

    pub of_clip : {instance : ClipInstance} → is_clip plan here.state i ≡ true → instance ≡ instance_at instances (clip_node_at plan here.state i)
        → clip_pose plan numbers words.a j (local_time instance time) ≡ pose_of i
    unfolding node_of node_pose
    of_clip e ei = rw (by_table i, e, r.found, ei)

    -- a lerp, or an additive node
    module _ {x y : Pose} (ex : x ≡ pose_of words.a) (ey : y ≡ pose_of words.b) where
      pub of_lerp : words.kind ≡ kind.Lerp → lerp x y (parameter parameters words.parameter) ≡ pose_of i
      unfolding node_of node_pose
      of_lerp e =
          let blend = no_clip plan here.state i r.found (λ k. absurd cc) in
          let less = inputs_before r blend in
          rw (by_table i, blend, is_lerp_lem plan here.state i r.found e, ex, ey, ← input words.a less.0, ← input words.b less.1, r.found)

      pub of_additive : (words.kind ≡ kind.Clip → ⊥) → (words.kind ≡ kind.Lerp → ⊥) → additive x y (parameter parameters words.parameter) ≡ pose_of i
      unfolding node_of node_pose
      of_additive ec e =
          let blend = no_clip plan here.state i r.found ec in
          let less = inputs_before r blend in
          rw (by_table i, blend, no_lerp plan here.state i r.found e, ex, ey, ← input words.a less.0, ← input words.b less.1, r.found)

-- ---- the root

module _ (at : StateAt) where
  pub root_there : 0 < at.here.nodes
  root_there = rw (nodes_counted at.place) (some_nodes at.figure.plan.words.now at.here.state (here_ok at.place (passes at)))

  pub root_pose : (parameters instances : List Float) (j : ℕ) → pose_of_node at.figure.plan.words.now at.figure.numbers.now parameters at.time at.here.state instances (at.here.nodes - 1) j
      ≡ state_pose at.figure.plan.words.now at.figure.numbers.now parameters at.time at.here.state instances j
  unfolding state_pose
  root_pose parameters instances j =
      let e : suc (at.here.nodes - 1) ≡ at.here.nodes = omega (arith, root_there) in
      rw (e, nodes_counted at.place)
