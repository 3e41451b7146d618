-- What alike numbers have in common: transitions of reachable states, rates of played clips, and their poses at chosen joints.
use Prim.Native.Nat.{ℕ, zero, suc, ◌<◌}
use native.Mathlib.Omega.{arith}
use Rattle.std.specs.Prelude.{◌≡◌, length, Float}
use Rattle.std.proofs.Math.Path.{refl}
use Rattle.std.proofs.Common.{subst, inl, inr}
use mathlib.Core.List.{List, Memᴰ}
use Rattle.model.specs.Numbers.{◌*₃₂◌}
use Rattle.model.specs.Answers.{accepted}
use Rattle.model.specs.Plan.{clip_count, state_count, transition_count, sample_count, is_stopping, NumberName, Rate, Value, Duration, PoseFloat, number_at, number, sample_pose}
use Rattle.model.specs.Check.{check}
use Rattle.model.specs.Clips.{first_index, second_index, sampled_position, duration, pose_at, clip_pose}
use Rattle.model.specs.Unseen.{Reachable, Played, HasNumber, Unseen}
use Rattle.model.proofs.Laws.Passed.{numbers_fit, reachable_below}
use Rattle.model.proofs.Laws.Marks.{unlike}
use Rattle.model.proofs.Laws.Reached.{reachable_marked, played_below, played_marked}
use Rattle.model.proofs.Laws.Clips.{first_below, second_below, pose_of_empty, pose_of_samples}
use Rattle.model.proofs.Laws.Numbers.{number_inside, one_name}
use Rattle.noninterference.specs.Alike.{Closed, AlikeNumbers}

module _ (plan chosen : List ℕ) (a b : List Float) (ok : check plan (length a) ≡ accepted) (closed : Closed plan chosen) (alike : AlikeNumbers plan chosen a b) where
  seen_same : (name : NumberName) → HasNumber plan name → ¬ Unseen plan chosen name → number plan a name ≡ number plan b name
  unfolding number
  seen_same name h seen =
      alike.places (number_at plan name) (omega (arith, number_inside plan name h, numbers_fit plan (length a) ok))
      (λ u. seen (subst (Unseen plan chosen) (one_name plan u.name name u.in_plan h u.here) u.unseen))

  -- ---- transitions of reachable states

  below : {s : ℕ} → Reachable plan s → s < state_count plan
  below r = reachable_below plan (length a) ok r

  pub value_same : {s : ℕ} → Reachable plan s → (t : ℕ) → t < transition_count plan s → number plan a (Value s t) ≡ number plan b (Value s t)
  value_same {s} r t h = seen_same (Value s t) (below r, h) (unlike (reachable_marked plan (length a) ok r))

  pub transition_duration_same : {s : ℕ} → Reachable plan s → (t : ℕ) → t < transition_count plan s → number plan a (Duration s t) ≡ number plan b (Duration s t)
  transition_duration_same {s} r t h = seen_same (Duration s t) (below r, h) (unlike (reachable_marked plan (length a) ok r))

  -- ---- clips that are played, at chosen joints

  below_clips : {c : ℕ} → Played plan c → c < clip_count plan
  below_clips p = played_below plan (length a) ok p

  pub rate_same : {c : ℕ} → Played plan c → number plan a (Rate c) ≡ number plan b (Rate c)
  rate_same {c} p = seen_same (Rate c) (below_clips p) (unlike (played_marked plan (length a) ok p))

  pub duration_same : {c : ℕ} → Played plan c → duration plan a c ≡ duration plan b c
  unfolding duration
  duration_same p = rw (rate_same p)

  module _ {c j : ℕ} (p : Played plan c) (m : Memᴰ j chosen) where
    float_same : (n k : ℕ) → n < sample_count plan c → k < 8 → number plan a (PoseFloat c n j k) ≡ number plan b (PoseFloat c n j k)
    float_same n k h hk = seen_same (PoseFloat c n j k) (below_clips p, h, closed.are_joints j m, hk) seen
      where
        seen : ¬ Unseen plan chosen (PoseFloat c n j k)
        seen (inl u) = u m
        seen (inr u) = unlike (played_marked plan (length a) ok p) u

    sample_same : (n : ℕ) → n < sample_count plan c → sample_pose plan a c n j ≡ sample_pose plan b c n j
    unfolding sample_pose
    sample_same n h =
        rw (
          float_same n 0 h (omega arith),
          float_same n 1 h (omega arith),
          float_same n 2 h (omega arith),
          float_same n 3 h (omega arith),
          float_same n 4 h (omega arith),
          float_same n 5 h (omega arith),
          float_same n 6 h (omega arith),
          float_same n 7 h (omega arith),
        )

    pub clip_same : (local : Float) → clip_pose plan a c j local ≡ clip_pose plan b c j local
    unfolding clip_pose
    clip_same local = rw (rate_same p) (at_same (sample_count plan c) refl (local *₃₂ number plan b (Rate c)))
      where
        at_same : (n : ℕ) → sample_count plan c ≡ n → (x : Float) → pose_at plan a c j x ≡ pose_at plan b c j x
        at_same zero e x = rw (pose_of_empty plan c a j x e, pose_of_empty plan c b j x e)
        at_same (suc n) e x =
            let some : 0 < sample_count plan c = omega arith in
            let at = sampled_position (is_stopping plan c) (sample_count plan c) x in
            rw (pose_of_samples plan c a j x some, pose_of_samples plan c b j x some, sample_same (first_index (sample_count plan c) at) (first_below _ at some), sample_same (second_index (sample_count plan c) at) (second_below _ at some))
