-- A clip's samples stand among those of all clips, so they are few and their numbers are there; and the pose between two of them is the clip's. Assumes nothing.
use Prim.Native.Nat.{ℕ, ◌+◌, ◌*◌, ◌≤◌, ◌<◌}
use native.Mathlib.Nat.{suc-mul, mul-le-mul_right}
use native.Mathlib.Omega.{arith}
use mathlib.Core.Path.{◌≡◌, sym}
use mathlib.Core.List.{List}
use lib.ListN.{length}
use lib.Ieee.{Float}
use Rattle.model.specs.declared.ClipInstance.{ClipInstance}
use Rattle.model.specs.Numbers.{◌*₃₂◌}
use Rattle.model.specs.Answers.{accepted}
use Rattle.model.specs.Text.{max_word}
use Rattle.model.specs.Plan.{max_joints, max_clips, max_samples, joint_count, clip_count, state_count, sample_count, samples_before, poses_at, number, Rate, number_at, numbers_length, sample_pose}
use Rattle.model.specs.declared.Pose.{Pose}
use Rattle.model.specs.Pose.{identity_pose}
use Rattle.model.specs.Check.{check}
use Rattle.model.specs.Clips.{local_time, clip_pose}
use Rattle.model.proofs.Laws.Totals.{total_below, total_most}
use Rattle.model.proofs.Laws.Clips.{first_below as first-in-clip, second_below as second-in-clip, pose_of_samples}
use Rattle.model.proofs.Laws.Passed.{few_samples, few_joints, few_clips, few_states, few_transitions_before}
use Rattle.model.proofs.Pauses.{shows_identity}
use Rattle.layout.specs.declared.Layout.{Layout}
use Rattle.layout.specs.declared.passed.Figure.{Figure}
use Rattle.layout.specs.Layout.{layout_of}
use Rattle.layout.proofs.Laws.{joints_found}
use Rattle.animation.specs.declared.Position.{Position}
use Rattle.animation.specs.Sampling.{position_in, pose_from}
use Rattle.blend_tree.specs.declared.sampling.Clip.{Clip}
use Rattle.lanes.specs.declared.Joints.{Joints}
use Rattle.blend_tree.specs.Blocks.{InBlock}
use Rattle.blend_tree.specs.Sampling.{clip_of, Sized, position_at, samples_at, pose_start, pose_between, Sampled}

positive : (n : ℕ) → (n ≡ 0 → ⊥) → 0 < n
positive n h = omega (arith, h)

-- a position in n samples
pub position_below : {n : ℕ} {p : Position} (x : Float) → 0 < n → p ≡ position_in n x → (p.first < n) × (p.second < n)
unfolding position_in
position_below x h e = rw e (first-in-clip _ x h, second-in-clip _ x h)

-- the joints of a row, one after the other
pub row_start : (layout : Layout) (sample first i : ℕ) → pose_start layout sample first + 8 * i ≡ pose_start layout sample (first + i)
row_start layout sample first i = omega arith

-- ---- the clips of a figure

module _ (figure : Figure) where
  abbrev plan : List ℕ
  plan = figure.plan.words.now

  abbrev layout : Layout
  layout = figure.plan.layout

  abbrev passed : check plan (numbers_length plan) ≡ accepted
  passed = figure.plan.laid.passed

  -- ---- a clip

  module _ {c : ℕ} (inside : c < clip_count plan) where
    few : sample_count plan c ≤ max_samples
    few = few_samples plan _ passed c inside

    pub clip_small : c < max_clips
    clip_small = omega (arith, inside, few_clips plan _ passed)

    few_before : samples_before plan c ≤ max_clips * max_samples
    unfolding samples_before
    few_before = omega (arith, clip_small, total_most (sample_count plan) max_samples c (λ k l. few_samples plan _ passed k (omega (arith, inside))))

    module _ {clip : Clip} (e : clip ≡ clip_of plan figure.numbers.now c) (some : clip.samples ≡ 0 → ⊥) where
      -- what `clip_position` and `clip_samples` ask
      pub clip_sized : Sized clip
      unfolding clip_of
      clip_sized = (positive clip.samples some, rw e few, rw e few_before)

      -- what `joint_pose` and `sampled_poses` ask of what it gives
      pub sampled : {p : Position} (x : Float) → p ≡ samples_at clip x → Sampled figure.numbers.now layout p
      unfolding clip_of
      sampled x found =
          record { plan = plan; c = c; position = x; laid = figure.plan.laid; whole = figure.whole; clip = inside; some = rw e at clip_sized.0; found = rw e at found }

-- ---- samples of a clip

module _ {numbers : List Float} {layout : Layout} {p : Position} (s : Sampled numbers layout p) where
  -- of all clips
  abbrev all : ℕ
  all = samples_before s.plan (clip_count s.plan)

  first_below : p.first < all
  unfolding clip_of samples_at samples_before
  first_below = rw s.found (total_below (sample_count s.plan) (clip_count s.plan) s.c _ s.clip (first-in-clip _ s.position s.some))

  second_below : p.second < all
  unfolding clip_of samples_at samples_before
  second_below = rw s.found (total_below (sample_count s.plan) (clip_count s.plan) s.c _ s.clip (second-in-clip _ s.position s.some))

  all_few : all ≤ max_clips * max_samples
  unfolding samples_before
  all_few = omega (arith, few_clips s.plan _ s.laid.passed, total_most (sample_count s.plan) max_samples (clip_count s.plan) (few_samples s.plan _ s.laid.passed))

  -- what `pose_at` asks
  pub samples_small : (layout.joints ≤ max_joints) × (layout.poses_at ≤ max_word) × (p.first < max_clips * max_samples) × (p.second < max_clips * max_samples)
  unfolding layout_of poses_at
  samples_small = (
    rw s.laid.found (few_joints s.plan _ s.laid.passed),
    rw s.laid.found (omega (arith, few_clips s.plan _ s.laid.passed, few_states s.plan _ s.laid.passed, few_transitions_before s.plan _ s.laid.passed (state_count s.plan) (omega arith))),
    omega (arith, all_few, first_below),
    omega (arith, all_few, second_below),
  )

  inside : (sample j : ℕ) → sample < all → j < layout.joints → pose_start layout sample j + 8 ≤ length numbers
  unfolding layout_of numbers_length
  inside sample j h hj =
      let joints = joint_count s.plan in
      let below : j < joints = rw (joints_found s.plan s.laid.found) at hj in
      rw s.laid.found (omega (arith, below, s.whole, suc-mul sample joints, mul-le-mul_right joints h))

  pub joint_inside : {j : ℕ} → j < layout.joints → (pose_start layout p.first j + 8 ≤ length numbers) × (pose_start layout p.second j + 8 ≤ length numbers)
  joint_inside {j} h = (inside p.first j first_below h, inside p.second j second_below h)

  pub row_inside : {joints : Joints} {low high i : ℕ} → InBlock layout joints
      → low ≡ pose_start layout p.first joints.first → high ≡ pose_start layout p.second joints.first → i < joints.count
      → (low + 8 * i + 8 ≤ length numbers) × (high + 8 * i + 8 ≤ length numbers)
  row_inside {joints} {low} {high} {i} block el eh h =
      rw (el, eh, row_start _ p.first joints.first i, row_start _ p.second joints.first i) (joint_inside (omega (arith, h, block.inside)))

-- ---- what an instance of a clip shows of a joint

module _ (plan : List ℕ) (numbers : List Float) (c : ℕ) {clip : Clip} (e : clip ≡ clip_of plan numbers c) (instance : ClipInstance) (time : Float) (j : ℕ) where
  abbrev shown : Pose
  shown = clip_pose plan numbers c j (local_time instance time)

  -- without samples
  pub identity_shown : clip.samples ≡ 0 → identity_pose ≡ shown
  unfolding clip_of
  identity_shown none = sym (shows_identity plan numbers c (rw e at none) j _)

  -- with samples, the pose between those on either side
  pub between_shown : {layout : Layout} {x : Float} {p : Position} → layout ≡ layout_of plan → (clip.samples ≡ 0 → ⊥)
      → x ≡ position_at clip instance time → p ≡ samples_at clip x → pose_between numbers layout p j ≡ shown
  unfolding pose_between clip_pose clip_of samples_at layout_of pose_from sample_pose number number_at
  between_shown found some ex ep =
      let has : 0 < sample_count plan c = rw e at (positive clip.samples some) in
      rw (pose_of_samples plan c numbers j (local_time instance time *₃₂ number plan numbers (Rate c)) has, ep, ex, e, found)
