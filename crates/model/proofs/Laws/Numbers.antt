-- `number_at` is one to one on the names that a plan has, and stays below the numbers' length.
use Rattle.std.specs.Prelude.{ℕ, ◌+◌, ◌*◌, ◌<◌, ◌≡◌, List}
use native.Mathlib.Omega.{arith}
use Rattle.std.proofs.Math.Path.{ap}
use Rattle.model.specs.Plan.{clip_count, state_count, joint_count, transition_count, sample_count, transitions_before, samples_before, poses_at, NumberName, Rate, Value, Duration, PoseFloat, number_at, numbers_length}
use Rattle.model.specs.Unseen.{HasNumber}
use Rattle.model.proofs.Laws.Totals.{total_below, same_row, same_place, same_quotient, same_remainder, row_below}

module _ (plan : List ℕ) where
  transition_below : (s t : ℕ) → s < state_count plan → t < transition_count plan s → transitions_before plan s + t < transitions_before plan (state_count plan)
  unfolding transitions_before
  transition_below s t h e = total_below (transition_count plan) (state_count plan) s t h e

  sample_below : (c n : ℕ) → c < clip_count plan → n < sample_count plan c → samples_before plan c + n < samples_before plan (clip_count plan)
  unfolding samples_before
  sample_below c n h e = total_below (sample_count plan) (clip_count plan) c n h e

  pub number_inside : (p : NumberName) → HasNumber plan p → number_at plan p < numbers_length plan
  unfolding number_at numbers_length poses_at
  number_inside (Rate c) h = omega arith
  number_inside (Value s t) h = omega (arith, transition_below s t h.0 h.1)
  number_inside (Duration s t) h = omega (arith, transition_below s t h.0 h.1)
  number_inside (PoseFloat c n j k) h =
      let x : (samples_before plan c + n) * joint_count plan + j < samples_before plan (clip_count plan) * joint_count plan = row_below (joint_count plan) (samples_before plan c + n) (samples_before plan (clip_count plan)) j (sample_below c n h.0 h.1) h.2 in
      omega (arith, h.3)

  same_transition : (s t u v : ℕ) → t < transition_count plan s → v < transition_count plan u → transitions_before plan s + t ≡ transitions_before plan u + v → (s ≡ u) × (t ≡ v)
  unfolding transitions_before
  same_transition s t u v h k e = (same_row (transition_count plan) s t u v h k e, same_place (transition_count plan) s t u v h k e)

  same_sample : (c n d m : ℕ) → n < sample_count plan c → m < sample_count plan d → samples_before plan c + n ≡ samples_before plan d + m → (c ≡ d) × (n ≡ m)
  unfolding samples_before
  same_sample c n d m h k e = (same_row (sample_count plan) c n d m h k e, same_place (sample_count plan) c n d m h k e)

  same_pose : (c n j k d m l i : ℕ) → HasNumber plan (PoseFloat c n j k) → HasNumber plan (PoseFloat d m l i)
      → number_at plan (PoseFloat c n j k) ≡ number_at plan (PoseFloat d m l i) → PoseFloat c n j k ≡ PoseFloat d m l i
  unfolding number_at poses_at
  same_pose c n j k d m l i h g e =
      let x = (samples_before plan c + n) * joint_count plan + j in
      let y = (samples_before plan d + m) * joint_count plan + l in
      let both : x * 8 + k ≡ y * 8 + i = omega arith in
      let row : x ≡ y = same_quotient 8 x k y i h.3 g.3 both in
      let float : k ≡ i = same_remainder 8 x k y i h.3 g.3 both in
      let sample : samples_before plan c + n ≡ samples_before plan d + m = same_quotient (joint_count plan) (samples_before plan c + n) j (samples_before plan d + m) l h.2 g.2 row in
      let joint : j ≡ l = same_remainder (joint_count plan) (samples_before plan c + n) j (samples_before plan d + m) l h.2 g.2 row in
      let clip : (c ≡ d) × (n ≡ m) = same_sample c n d m h.1 g.1 sample in
      rw (clip.0, clip.1, joint, float)

  pub one_name : (p q : NumberName) → HasNumber plan p → HasNumber plan q → number_at plan p ≡ number_at plan q → p ≡ q
  unfolding number_at poses_at
  one_name (Rate c) (Rate d) h g e = ap Rate e
  one_name (Rate c) (Value u v) h g e = absurd (omega arith)
  one_name (Rate c) (Duration u v) h g e = absurd (omega arith)
  one_name (Rate c) (PoseFloat d m l i) h g e = absurd (omega arith)
  one_name (Value s t) (Rate d) h g e = absurd (omega arith)
  one_name (Value s t) (Value u v) h g e = let x : (s ≡ u) × (t ≡ v) = same_transition s t u v h.1 g.1 (omega arith) in rw (x.0, x.1)
  one_name (Value s t) (Duration u v) h g e = absurd (omega arith)
  one_name (Value s t) (PoseFloat d m l i) h g e = absurd (omega (arith, transition_below s t h.0 h.1))
  one_name (Duration s t) (Rate d) h g e = absurd (omega arith)
  one_name (Duration s t) (Value u v) h g e = absurd (omega arith)
  one_name (Duration s t) (Duration u v) h g e = let x : (s ≡ u) × (t ≡ v) = same_transition s t u v h.1 g.1 (omega arith) in rw (x.0, x.1)
  one_name (Duration s t) (PoseFloat d m l i) h g e = absurd (omega (arith, transition_below s t h.0 h.1))
  one_name (PoseFloat c n j k) (Rate d) h g e = absurd (omega arith)
  one_name (PoseFloat c n j k) (Value u v) h g e = absurd (omega (arith, transition_below u v g.0 g.1))
  one_name (PoseFloat c n j k) (Duration u v) h g e = absurd (omega (arith, transition_below u v g.0 g.1))
  one_name (PoseFloat c n j k) (PoseFloat d m l i) h g e = same_pose c n j k d m l i h g e
