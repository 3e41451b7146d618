-- A state of one node, which is a clip: nothing is synchronised, and its pose is the clip's. And a skeleton of one joint. Assumes nothing.
use Prim.Native.Nat.{ℕ, ◌<◌}
use native.Mathlib.Omega.{arith}
use mathlib.Core.Path.{◌≡◌, refl, sym, ◌∙◌}
use mathlib.Core.Bool.{Bool, true, false}
use mathlib.Core.List.{List}
use lib.Ieee.{Float}
use Rattle.model.specs.declared.FrameKind.{FrameKind}
use Rattle.model.specs.declared.Pose.{Pose}
use Rattle.model.specs.declared.ClipInstance.{ClipInstance}
use Rattle.model.specs.declared.Transition.{Transition}
use Rattle.model.specs.declared.Transition.TheVariants.{Idle}
use Rattle.model.specs.Rotations.{identity_matrix, floats, product}
use Rattle.model.specs.Pose.{to_matrix}
use Rattle.model.specs.Plan.{max_clip_nodes, joint_count, node_count, is_clip}
use Rattle.model.specs.Clips.{local_time, instance_at, clip_pose}
use Rattle.model.specs.Tree.{is_touched, synchronize_node, synchronize_nodes, synchronize, state_pose}
use Rattle.model.specs.Skeleton.{own_matrix, written}
use Rattle.model.proofs.Laws.State.{a_earlier, few_clip_nodes}
use Rattle.model.proofs.Laws.ClipNodes.{first_clip_node}
use Rattle.layout.specs.declared.Node.{Node}
use Rattle.layout.specs.Layout.{node_of}
use Rattle.layout.proofs.Laws.{here_ok, nodes_counted, clips_counted}
use Rattle.layout.proofs.NodeLaws.{NodeRead}
use Rattle.blend_tree.specs.declared.StateAt.{StateAt}
use Rattle.blend_tree.proofs.NodeLaws.{passes, node_read}
use Rattle.blend_tree.proofs.SynchronizeLaws.{lerp_no_clip, other_untouched}
use Rattle.blend_tree.proofs.PoseLaws.{of_clip, root_pose}
use Rattle.skeleton.specs.Buffer.{stored, joints_written}
use Rattle.skeleton.proofs.Laws.{root_written}
use Rattle.output_pose.specs.Shown.{JointShown, Shown}
use Rattle.output_pose.proofs.Laws.{shown_idle}

module _ (at : StateAt) (one : at.here.nodes ≡ 1) where
  abbrev plan : List ℕ
  plan = at.figure.plan.words.now

  abbrev numbers : List Float
  numbers = at.figure.numbers.now

  counted : node_count plan at.here.state ≡ 1
  counted = sym (nodes_counted at.place) ∙ one

  -- another node has inputs before it
  pub only_clip : is_clip plan at.here.state 0 ≡ true
  only_clip = go (is_clip plan at.here.state 0) refl
    where
      go : (t : Bool) → is_clip plan at.here.state 0 ≡ t → t ≡ true
      go true e = refl
      go false e = absurd (omega (arith, a_earlier plan at.here.state (here_ok at.place (passes at)) 0 (omega (arith, counted)) e))

  pub instance_there : at.here.clip_node < max_clip_nodes
  instance_there =
      omega (arith, clips_counted at.place, first_clip_node plan at.here.state, few_clip_nodes plan at.here.state (here_ok at.place (passes at)) 0 (omega (arith, counted)) only_clip)

  -- and a lerp is no clip
  untouched : is_touched plan at.here.state 0 ≡ false
  untouched =
      let e : node_of plan at.here.state 0 ≡ node_of plan at.here.state 0 = refl in
      sym (other_untouched plan at.here.state 0 e (λ k. absurd (cc (only_clip, lerp_no_clip plan at.here.state 0 e k))))

  alone : (parameters : List Float) (instances : List Float) → instances ≡ synchronize plan numbers parameters at.time at.here.state instances
  unfolding synchronize synchronize_nodes synchronize_node
  alone parameters instances = rw (counted, untouched)

  -- so what is shown of it is what an idle player shows, whatever its parameters
  pub shown_alone : (kind : FrameKind) (parameters : List Float) (instant : Float) (t : Transition) (instances old new : List Float) → t ≡ Idle → JointShown kind plan numbers at.time at.here.state instances old new
      → Shown kind plan numbers at.time instant at.here.state t parameters instances instances old new
  shown_alone kind parameters instant t instances old new idle s =
      shown_idle kind plan numbers at.time instant at.here.state parameters instances old t instances new idle (record { instances = alone parameters instances; output = s.output parameters })

  -- the state's pose is its clip's
  pub only_pose : {words : Node} {instance : ClipInstance} → words ≡ node_of plan at.here.state 0 → (instances : List Float)
      → instance ≡ instance_at instances at.here.clip_node
      → (parameters : List Float) (j : ℕ) → clip_pose plan numbers words.a j (local_time instance at.time) ≡ state_pose plan numbers parameters at.time at.here.state instances j
  only_pose {words} e instances ei parameters j =
      let r : NodeRead plan at.here 0 words = node_read at (omega (arith, one)) e in
      of_clip r numbers parameters at.time instances j only_clip (rw (clips_counted at.place, first_clip_node plan at.here.state) at ei)
      ∙ rw one at (root_pose at parameters instances j)

-- a skeleton of one joint
pub joint_shown : (kind : FrameKind) (plan : List ℕ) (numbers : List Float) (time : Float) (state : ℕ) (instances old new : List Float) (pose : Pose) → joint_count plan ≡ 1
    → ((parameters : List Float) → pose ≡ state_pose plan numbers parameters time state instances 0)
    → new ≡ stored old 0 (floats (product identity_matrix (own_matrix kind (to_matrix pose))))
    → JointShown kind plan numbers time state instances old new
unfolding joints_written written
joint_shown kind plan numbers time state instances old new pose one p e =
    record { output = λ parameters. rw (one, e, p parameters) (root_written kind plan (state_pose plan numbers parameters time state instances) old) }
