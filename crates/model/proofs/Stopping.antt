-- Document 02, Card 1: where a stopping clip is sampled, and when an ending is judged. Theorems over the definitions.
use Rattle.std.specs.Prelude.{ℕ, ◌-◌, ◌%◌, ◌≤◌, ◌<◌, ◌≡◌, refl, true, false, List, length, Float}
use Rattle.std.proofs.Common.{arith, mod-eq_of_lt}
use Rattle.std.specs.Float.{nan, inf, fin}
use Rattle.std.specs.Float.Ieee.{lt, le, eq, of_bits}
use Rattle.std.specs.Float.Ieee.Exact.{HasValue}
use Rattle.model.specs.Numbers.{0f, floor_index, ceiling_index, index_float}
use Rattle.model.specs.Pose.{lerp}
use Rattle.model.specs.Answers.{accepted}
use Rattle.model.specs.Plan.{max_samples, clip_count, sample_count, is_stopping, sample_pose}
use Rattle.model.specs.Check.{check}
use Rattle.model.specs.Clips.{first_index, second_index, factor, sampled_position, pose_at}
use Rattle.model.proofs.Laws.Opened.{check_opened, floats_opened}
use Rattle.model.proofs.Laws.Passed.{few_samples}
use Rattle.model.proofs.Laws.Clips.{pose_of_samples}
use Rattle.model.proofs.Laws.Wholes.{floor_of, ceiling_of, index_value, whole_less_itself}
use Rattle.model.specs.Stopping.{AtLast, StoppingCases, EndingJudged}

pub at_last : (n : ℕ) → 0 < n → n ≤ max_samples → AtLast n
unfolding first_index second_index factor of_bits
at_last n some few =
    let last = index_float (n - 1) in
    let value : HasValue last false (n - 1) 1 = index_value (n - 1) (omega arith) in
    let floor : floor_index last ≡ n - 1 = floor_of last (n - 1) (omega arith) value in
    let ceiling : ceiling_index last ≡ n - 1 = ceiling_of last (n - 1) (omega arith) value in
    let below : (n - 1) % n ≡ n - 1 = mod-eq_of_lt {n = n - 1} {m = n} (omega arith) in
    record { first = rw (floor, below); second = rw (ceiling, below); no_factor = rw floor (whole_less_itself (n - 1) (omega arith)) }

-- the whole of it, in a figure that passes: a stopping clip that has samples 'at position N − 1 or above' shows its last one, 'lerp as ever'
module _ (plan : List ℕ) (numbers : List Float) (passed : check plan (length numbers) ≡ accepted) (c : ℕ) (inside : c < clip_count plan) where
  abbrev n : ℕ
  n = sample_count plan c

  pub held : 0 < n → is_stopping plan c ≡ true → (position : Float) → le (index_float (n - 1)) position ≡ true → (j : ℕ)
      → let last = sample_pose plan numbers c (n - 1) j in pose_at plan numbers c j position ≡ lerp last last 0f
  unfolding sampled_position
  held some stops position above j =
      let l = at_last n some (few_samples plan (length numbers) passed c inside) in
      rw (pose_of_samples plan c numbers j position some, stops, above, l.first, l.second, l.no_factor)

-- 'below that .. as before'
pub below_as_before : (n : ℕ) (position : Float) → le (index_float (n - 1)) position ≡ false → sampled_position true n position ≡ position
unfolding sampled_position
below_as_before n position e = rw e

-- '.. and for NaN'
pub nan_as_before : (n : ℕ) → sampled_position true n nan ≡ nan
unfolding le lt eq
nan_as_before n = below_as_before n nan (never (index_float (n - 1)))
  where
    never : (v : Float) → le v nan ≡ false
    never nan = refl
    never (inf s) = refl
    never (fin s m e) = refl

-- +infinity is above every N − 1
pub infinity_held : (n : ℕ) → 0 < n → n ≤ max_samples → sampled_position true n (inf false) ≡ index_float (n - 1)
unfolding sampled_position le lt eq
infinity_held n some few = rw (above (index_float (n - 1)) (index_value (n - 1) (omega arith)))
  where
    above : (v : Float) → HasValue v false (n - 1) 1 → le v (inf false) ≡ true
    above nan h = absurd h
    above (inf s) h = absurd h
    above (fin s m e) h = refl

-- a clip that loops is sampled where it is, as before
pub looping_as_before : (n : ℕ) (position : Float) → sampled_position false n position ≡ position
unfolding sampled_position
looping_as_before n position = refl

-- ---- indices and factor in a stopping clip, by computing. A position is given by its bits

pub stopping_cases : StoppingCases
unfolding floats_opened
stopping_cases =
    record {
      below = (refl, refl, refl);
      last = (refl, refl, refl);
      between = (refl, refl, refl);
      above = (refl, refl, refl);
      negative = (refl, refl, refl);
      minus_infinity = (refl, refl, refl);
      not_a_number_lem = (refl, refl, refl);
      minus_zero = (refl, refl, refl);
      below_zero = (refl, refl, refl);
      still_a_lerp = refl;
    }

-- ---- 'judged after its N', at its own place

pub ending_judged : EndingJudged
unfolding check_opened
ending_judged = record { loop_and_stop = refl; neither = refl; after_its_count = refl; before_the_next_count = refl; missing = refl }
