-- Document 02, Card 1: what is shown of a clip that stops. Definitions only: the theorems are in proofs/Stopping.antt.
use Rattle.std.specs.Prelude.{ℕ, ◌-◌, ◌≡◌, true, List, [], ◌∷◌, Float}
use Rattle.std.specs.Float.{nan, inf, binary32}
use Rattle.std.specs.Float.Ieee.{to_bits, of_bits}
use Rattle.model.specs.Numbers.{0f, half, index_float}
use Rattle.model.specs.Pose.{identity_pose, lerp}
use Rattle.model.specs.Answers.{accepted, refused}
use Rattle.model.specs.Check.{check}
use Rattle.model.specs.Clips.{first_index, second_index, factor, sampled_position}

-- 'both indices N − 1, factor 0': at position N − 1, which is a float for every N that passes
pub record AtLast (n : ℕ) : Type 0 where
  pub first : first_index n (index_float (n - 1)) ≡ n - 1
  pub second : second_index n (index_float (n - 1)) ≡ n - 1
  pub no_factor : factor (index_float (n - 1)) ≡ 0f

abbrev pub SampledAs : ℕ → ℕ → ℕ → ℕ → Float → Type 0
SampledAs n bits first second f =
    let at = sampled_position true n (of_bits binary32 bits) in
    (first_index n at ≡ first) × (second_index n at ≡ second) × (factor at ≡ f)

pub record StoppingCases : Type 0 where
  -- four samples, at 2.5, 3, 3.5, 4 and -0.5
  pub below : SampledAs 4 0x4020_0000 2 3 half
  pub last : SampledAs 4 0x4040_0000 3 3 0f
  pub between : SampledAs 4 0x4060_0000 3 3 0f
  pub above : SampledAs 4 0x4080_0000 3 3 0f
  pub negative : SampledAs 4 0xbf00_0000 0 0 (of_bits binary32 0xbf00_0000)
  -- -infinity and NaN are not above
  pub minus_infinity : SampledAs 4 0xff80_0000 0 0 (inf true)
  pub not_a_number_lem : SampledAs 4 0x7fc0_0000 0 0 nan
  -- one sample, at -0: the factor is +0
  pub minus_zero : SampledAs 1 0x8000_0000 0 0 0f
  pub below_zero : SampledAs 1 0xbf00_0000 0 0 (of_bits binary32 0xbf00_0000)
  -- a lerp of a sample with itself is not the sample, since the root is approximate
  pub still_a_lerp : to_bits binary32 (lerp identity_pose identity_pose 0f).rotation.w ≡ 0x3f7f_910f

-- one root, two clips with these words, one state of one node that plays clip 0
abbrev pub two_clips : ℕ → ℕ → ℕ → ℕ → List ℕ
two_clips n ending m later = 1 ∷ 2 ∷ 0 ∷ 1 ∷ 0 ∷ 255 ∷ n ∷ ending ∷ m ∷ later ∷ 1 ∷ 0 ∷ 0 ∷ 0 ∷ 0 ∷ 0 ∷ []

pub record EndingJudged : Type 0 where
  pub loop_and_stop : check (two_clips 1 0 1 1) 18 ≡ accepted
  pub neither : check (two_clips 1 2 1 0) 18 ≡ refused 14 7 0
  -- N 4,097 and an ending 2: N decides; an ending 2 and the next N 4,097: the ending does
  pub after_its_count : check (two_clips 4097 2 1 0) 18 ≡ refused 2 6 0
  pub before_the_next_count : check (two_clips 1 2 4097 0) 18 ≡ refused 14 7 0
  -- a missing one is 1
  pub missing : check (1 ∷ 2 ∷ 0 ∷ 1 ∷ 0 ∷ 255 ∷ 1 ∷ []) 18 ≡ refused 1 7 0
