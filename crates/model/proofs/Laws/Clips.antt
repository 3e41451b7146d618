-- Indices are those of samples, where there are some. A clip has samples or not, and what it shows in either case.
use Rattle.std.specs.Prelude.{ℕ, ◌<◌, ◌≡◌, true, false, List, Float}
use Rattle.std.proofs.Math.Nat.{mod-lt}
use Rattle.std.proofs.Common.{arith}
use borrow.Author.Tests.{eq-eqb, ne_eqb}
use Rattle.model.specs.Pose.{identity_pose, lerp}
use Rattle.model.specs.Plan.{sample_count, is_empty, is_stopping, sample_pose}
use Rattle.model.specs.Clips.{first_index, second_index, factor, sampled_position, pose_at}

module _ (n : ℕ) (position : Float) (some : 0 < n) where
  pub first_below : first_index n position < n
  unfolding first_index
  first_below = mod-lt _ some

  pub second_below : second_index n position < n
  unfolding second_index
  second_below = mod-lt _ some

module _ (plan : List ℕ) (c : ℕ) where
  pub empty : sample_count plan c ≡ 0 → is_empty plan c ≡ true
  unfolding is_empty
  empty e = eq-eqb _ _ e

  pub not_empty : 0 < sample_count plan c → is_empty plan c ≡ false
  unfolding is_empty
  not_empty h = ne_eqb (sample_count plan c) 0 (λ e. omega arith)

  module _ (numbers : List Float) (j : ℕ) (position : Float) where
    pub pose_of_empty : sample_count plan c ≡ 0 → pose_at plan numbers c j position ≡ identity_pose
    unfolding pose_at
    pose_of_empty e = rw (empty e)

    pub pose_of_samples : 0 < sample_count plan c
        → let n = sample_count plan c in
        let at = sampled_position (is_stopping plan c) n position in
        pose_at plan numbers c j position ≡ lerp (sample_pose plan numbers c (first_index n at) j) (sample_pose plan numbers c (second_index n at) j) (factor at)
    unfolding pose_at
    pose_of_samples h = rw (not_empty h)
