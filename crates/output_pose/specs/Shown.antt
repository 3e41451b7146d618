-- Steps 2 and 3 of a frame, for functions that see the player's parts. Definitions only.
use Rattle.std.specs.Prelude.{ℕ, ◌≡◌, List, Float, Option, Some, None}
use Rattle.std.specs.Borrow.{Bor}
use Rattle.model.specs.declared.FrameKind.{FrameKind}
use Rattle.model.specs.declared.Player.{Player}
use Rattle.model.specs.declared.Pose.{Pose}
use Rattle.model.specs.declared.Transition.{Transition}
use Rattle.model.specs.Plan.{joint_count}
use Rattle.model.specs.Pose.{lerp}
use Rattle.model.specs.Tree.{synchronize, state_pose}
use Rattle.model.specs.Controller.{instances_in, pose_in}
use Rattle.model.specs.Skeleton.{joint_matrices, written}
use Rattle.layout.specs.declared.passed.Figure.{Figure}
use Rattle.blend_tree.specs.declared.StateAt.{StateAt}
use Rattle.blend_tree.specs.declared.Source.{Source}
use Rattle.blend_tree.specs.Slots.{Slots}
use Rattle.blend_tree.specs.Blocks.{state_pose_at}
use Rattle.output_pose.specs.declared.Target.{Target}

-- the whole output, from the joints' poses
abbrev pub skeleton_of : FrameKind → List ℕ → (ℕ → Pose) → List Float → List Float
skeleton_of kind plan pose_of old = written plan (joint_matrices kind plan pose_of (joint_count plan)) old

-- joint j's pose as it is shown: the state's, blended towards the target's where there is one
unfoldable pub shown_pose : Source → Option (Bor Target) → ℕ → Pose
shown_pose from None j = state_pose_at from j
shown_pose from (Some t) j = lerp (state_pose_at from j) (state_pose_at t.now.source j) t.now.factor

-- ---- what is shown

-- the output shows a state that reads no parameter
pub record JointShown (kind : FrameKind) (plan : List ℕ) (numbers : List Float) (time : Float) (state : ℕ) (instances old new : List Float) : Type 0 where
  pub output : (parameters : List Float) → new ≡ skeleton_of kind plan (state_pose plan numbers parameters time state instances) old

-- a state by itself is synchronised, and the output shows it
pub record StateShown (kind : FrameKind) (plan : List ℕ) (numbers : List Float) (time : Float) (state : ℕ) (parameters before after old new : List Float) : Type 0 where
  pub instances : after ≡ synchronize plan numbers parameters time state before
  pub output : new ≡ skeleton_of kind plan (state_pose plan numbers parameters time state after) old

-- r is the figure's state `target` at a time, with its slots, synchronised on top of `before`
pub record TargetSynchronized (f : Figure) (t : Float) (target : ℕ) (parameters : List Float) (slots : List ℕ) (before after : List Float) (r : StateAt) : Type 0 where
  pub figure : r.figure ≡ f
  pub number : r.here.state ≡ target
  pub time : r.time ≡ t
  pub filled : Slots r.figure.plan.words.now r.here.state slots
  pub instances : after ≡ synchronize f.plan.words.now f.numbers.now parameters t target before

-- a state on its way to another by a factor: the other is synchronised on top of `before`, and the output shows both, blended
pub record Blended (kind : FrameKind) (from : Source) (target : ℕ) (factor : Float) (before after old new : List Float) : Type 0 where
  pub instances : after ≡ synchronize from.state.figure.plan.words.now from.state.figure.numbers.now from.parameters.now from.state.time target before
  pub output : new ≡ skeleton_of kind from.state.figure.plan.words.now (λ j. lerp (state_pose_at from j) (state_pose from.state.figure.plan.words.now from.state.figure.numbers.now from.parameters.now from.state.time target after j) factor) old

-- for every player with these parts: its instances are synchronised, and the output shows its poses
pub record Shown (kind : FrameKind) (plan : List ℕ) (numbers : List Float) (time instant : Float) (state : ℕ) (transition : Transition) (parameters before after old new : List Float) : Type 0 where
  pub instances : (p : Player) → p.state ≡ state → p.parameters ≡ parameters → p.instances ≡ before → after ≡ instances_in plan numbers time p transition
  pub output : (p : Player) → p.state ≡ state → p.parameters ≡ parameters → p.instances ≡ before
      → new ≡ skeleton_of kind plan (λ j. pose_in plan numbers time p instant j transition) old
