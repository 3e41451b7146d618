-- Document 02, Card 2: what a clip without samples shows, what a lerp node leaves alone that has one for an input, and that N may be 0. Theorems over the
-- definitions.
use Rattle.std.specs.Prelude.{ℕ, ◌<◌, ◌≡◌, refl, ◌⊎◌, false, ◌&&◌, List, Float}
use Rattle.std.proofs.Common.{arith, ap, inl, inr}
use Rattle.std.specs.Float.{binary32}
use Rattle.std.specs.Float.Ieee.{to_bits}
use Rattle.model.specs.Numbers.{0f}
use Rattle.model.specs.Pose.{identity_pose, lerp}
use Rattle.model.specs.Answers.{accepted}
use Rattle.model.specs.Plan.{sample_count, is_clip, is_lerp, input_a, input_b, Rate}
use Rattle.model.specs.Check.{check}
use Rattle.model.specs.Clips.{clip_pose}
use Rattle.model.specs.Tree.{plays_samples, is_touched, synchronize_node}
use Rattle.model.specs.Unseen.{Played, Unseen}
use Rattle.model.proofs.Laws.Marks.{unlike}
use Rattle.model.proofs.Laws.Reached.{played_marked}
use Rattle.model.proofs.Laws.Opened.{check_opened, floats_opened, all_opened}
use Rattle.model.proofs.Laws.Tests.{and_true, and_false}
use Rattle.model.proofs.Laws.Clips.{empty, not_empty, pose_of_empty}
use Rattle.model.specs.Stopping.{two_clips}
use Rattle.model.specs.Pauses.{Pauses, CountJudged, Shows}

-- 'the identity pose at every joint, whatever its ending', at every time. With samples: `held` and `below_as_before` of Stopping
pub shows_identity : (plan : List ℕ) (numbers : List Float) (c : ℕ) → sample_count plan c ≡ 0 → (j : ℕ) (local : Float) → clip_pose plan numbers c j local ≡ identity_pose
unfolding clip_pose
shows_identity plan numbers c e j local = pose_of_empty plan c numbers j _ e

-- that is no lerp of it: the rotation of such a lerp is not of length 1, since the root is approximate
pub not_a_lerp : ¬ (lerp identity_pose identity_pose 0f ≡ identity_pose)
unfolding floats_opened
not_a_lerp e =
    let same : ◌≡◌ {A = ℕ} 0x3f7f_910f 0x3f80_0000 = ap (λ p. to_bits binary32 p.rotation.w) e in
    omega arith

-- ---- 'not synchronised'

module _ (plan : List ℕ) (s : ℕ) where
  pauses : (k : ℕ) → Pauses plan s k → plays_samples plan s k ≡ false
  unfolding plays_samples
  pauses k p = rw (p.0, empty plan (input_a plan s k) p.1)

  plays : (k : ℕ) → 0 < sample_count plan (input_a plan s k) → plays_samples plan s k ≡ is_clip plan s k
  unfolding plays_samples
  plays k h = rw (not_empty plan (input_a plan s k) h, and_true (is_clip plan s k))

  module _ (i : ℕ) where
    untouched : Pauses plan s (input_a plan s i) ⊎ Pauses plan s (input_b plan s i) → is_touched plan s i ≡ false
    unfolding is_touched
    untouched (inl p) = rw (pauses (input_a plan s i) p, and_false (is_lerp plan s i))
    untouched (inr p) = rw (pauses (input_b plan s i) p, and_false (plays_samples plan s (input_a plan s i)), and_false (is_lerp plan s i))

    -- with an empty clip for either input, or for both, every clip instance stays: rate, offset and start
    pub not_synchronized : Pauses plan s (input_a plan s i) ⊎ Pauses plan s (input_b plan s i)
        → (numbers parameters : List Float) (time : Float) (instances : List Float) → synchronize_node plan numbers parameters time s i instances ≡ instances
    unfolding synchronize_node
    not_synchronized p numbers parameters time instances = rw (untouched p)

    -- where both clips have samples, which nodes are touched is document 01's
    pub touched_as_before : 0 < sample_count plan (input_a plan s (input_a plan s i)) → 0 < sample_count plan (input_a plan s (input_b plan s i))
        → is_touched plan s i ≡ is_lerp plan s i && (is_clip plan s (input_a plan s i) && is_clip plan s (input_b plan s i))
    unfolding is_touched
    touched_as_before ha hb = rw (plays (input_a plan s i) ha, plays (input_b plan s i) hb)

-- ---- 'N may be 0'

pub count_judged : CountJudged
unfolding check_opened
count_judged =
    record { none = refl; stopping = refl; in_both = refl; poses_left_over = refl; wrong_ending = refl; most = refl; too_many = refl }

-- ---- a whole frame: one joint that plays a pause, whatever both clips' rates and ext are

pub pause_shown : (rate other ext : Float) → Shows (two_clips 0 0 0 0) rate other ext × Shows (two_clips 0 1 0 0) rate other ext
unfolding all_opened
pause_shown rate other ext = (refl, refl)

-- ---- the list of what is unseen stays: no clip that is played has an unseen rate, with samples or without

pub played_rate_seen : (plan chosen : List ℕ) (c n : ℕ) → check plan n ≡ accepted → Played plan c → ¬ Unseen plan chosen (Rate c)
played_rate_seen plan chosen c n ok p u = unlike (played_marked plan n ok p) u
