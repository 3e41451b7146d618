-- A skeleton written block by block, and what a frame's steps 2 and 3 show in either case of the transition. Assumes nothing.
use Prim.Native.Nat.{ℕ, ◌+◌, ◌<◌, ◌≤◌}
use native.Mathlib.Omega.{arith}
use mathlib.Core.Path.{◌≡◌, refl, ap, ◌∙◌}
use mathlib.Core.Bool.{true}
use mathlib.Core.List.{List}
use lib.ListN.{length}
use lib.Ieee.{Float}
use borrow.Author.Tests.{ltb-true}
use Rattle.std.specs.Prelude.{Option, Some, None}
use Rattle.std.specs.Borrow.{Bor}
use Rattle.model.specs.declared.FrameKind.{FrameKind}
use Rattle.model.specs.declared.Pose.{Pose}
use Rattle.model.specs.declared.Transition.{Transition}
use Rattle.model.specs.declared.Transition.TheVariants.{Idle, Running}
use Rattle.model.specs.Pose.{lerp}
use Rattle.model.specs.Plan.{joint_count}
use Rattle.model.specs.Table.{table_to}
use Rattle.model.specs.Tree.{synchronize, state_pose}
use Rattle.model.specs.Controller.{is_target_below, transition_factor, current_instances, target_instances, instances_in, current_pose, target_pose, pose_in}
use Rattle.model.specs.Skeleton.{joint_matrices, flat, written}
use Rattle.blend_tree.specs.declared.StateAt.{StateAt}
use Rattle.blend_tree.specs.declared.Source.{Source}
use Rattle.blend_tree.specs.Blocks.{Filled, state_pose_at}
use Rattle.skeleton.specs.Buffer.{GlobalPoses, joints_written}
use Rattle.output_pose.specs.declared.Target.{Target}
use Rattle.output_pose.specs.Shown.{skeleton_of, shown_pose, StateShown, TargetSynchronized, Blended, Shown}

-- ---- blocks

-- what a target makes of the poses
module _ (from : Source) (j : ℕ) {t : Option (Bor Target)} where
  pub pose_alone : t ≡ None → state_pose_at from j ≡ shown_pose from t j
  unfolding shown_pose
  pose_alone e = rw e

  pub pose_towards : {x : Bor Target} → t ≡ Some x → lerp (state_pose_at from j) (state_pose_at x.now.source j) x.now.factor ≡ shown_pose from t j
  unfolding shown_pose
  pose_towards e = rw e

-- what a loop over blocks keeps: the matrices of the joints below `first` are written over the old output
pub record Through (kind : FrameKind) (plan : List ℕ) (joints : ℕ) (pose_of : ℕ → Pose) (old new : List Float) (first : ℕ) : Type 0 where
  pub so_far : new ≡ joints_written kind plan pose_of first old
  pub kept : length new ≡ length old
  pub most : first ≤ joints

module _ {kind : FrameKind} {plan : List ℕ} {joints : ℕ} {pose_of : ℕ → Pose} {old : List Float} where
  pub through_none : Through kind plan joints pose_of old old 0
  unfolding joints_written joint_matrices table_to flat
  through_none = record { so_far = refl; kept = refl; most = omega arith }

  module _ {new : List Float} {first : ℕ} (t : Through kind plan joints pose_of old new first) where
    pub through_next : {block : List Pose} {after : List Float} {count next : ℕ} → GlobalPoses kind plan block first count new after
        → Filled (λ i. pose_of (first + i)) count block → length after ≡ length new → first + count ≡ next → next ≤ joints → Through kind plan joints pose_of old after next
    through_next g f e n m = record { so_far = rw n at (g.written pose_of f old t.so_far); kept = e ∙ t.kept; most = m }

    pub through_all : joints ≡ joint_count plan → joints ≤ first → new ≡ skeleton_of kind plan pose_of old
    unfolding joints_written written
    through_all found h = let e : first ≡ joint_count plan = omega arith in rw e at t.so_far

-- ---- the transition

pub target_below : (n : ℕ) (t : Transition) (start duration : Float) (target : ℕ) → t ≡ Running start target duration → is_target_below n t ≡ true → target < n
unfolding is_target_below
target_below n t start duration target e h = ltb-true _ _ (rw e at h)

-- a state on its way to another that was synchronised
pub blended_to : {kind : FrameKind} {from : Source} {target : ℕ} {factor : Float} {slots : List ℕ} {before after old new : List Float} {there : StateAt}
    → TargetSynchronized from.state.figure from.state.time target from.parameters.now slots before after there
    → new ≡ skeleton_of kind from.state.figure.plan.words.now (λ j. lerp (state_pose_at from j) (state_pose there.figure.plan.words.now there.figure.numbers.now from.parameters.now there.time there.here.state after j) factor) old
    → Blended kind from target factor before after old new
blended_to t e =
    record { instances = t.instances; output = rw (ap (λ f. f.plan.words.now) t.figure, ap (λ f. f.numbers.now) t.figure, t.number, t.time) at e }

module _ (kind : FrameKind) (plan : List ℕ) (numbers : List Float) (time instant : Float) (state : ℕ) (parameters before old : List Float) where
  pub shown_idle : (t : Transition) (after new : List Float) → t ≡ Idle → StateShown kind plan numbers time state parameters before after old new
      → Shown kind plan numbers time instant state t parameters before after old new
  unfolding current_instances instances_in current_pose pose_in
  shown_idle t after new e s =
      record { instances = λ p a b c. rw (e, a, b, c) s.instances; output = λ p a b c. rw (e, a, b, c, ← s.instances) s.output }

pub shown_running : (kind : FrameKind) (from : Source) (instant : Float) (t : Transition) (start duration factor : Float) (target : ℕ) (before after old new : List Float)
    → t ≡ Running start target duration → factor ≡ transition_factor instant start duration
    → from.instances.now ≡ synchronize from.state.figure.plan.words.now from.state.figure.numbers.now from.parameters.now from.state.time from.state.here.state before
    → Blended kind from target factor from.instances.now after old new
    → Shown kind from.state.figure.plan.words.now from.state.figure.numbers.now from.state.time instant from.state.here.state t from.parameters.now before after old new
unfolding current_instances target_instances instances_in current_pose target_pose pose_in
shown_running kind from instant t start duration factor target before after old new e f g b =
    record { instances = λ p x y z. rw (e, x, y, z, ← g) b.instances; output = λ p x y z. rw (e, x, y, z, ← g, ← b.instances, ← f) b.output }
