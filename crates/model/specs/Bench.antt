-- The bench sheet, and the figures that theorems speak of. Definitions only: the theorems are in proofs/Bench.antt.
use Rattle.std.specs.Prelude.{ℕ, ◌≡◌, List, [], ◌∷◌, ◌++◌, length, replicate, Float}
use Rattle.std.specs.Float.{binary32, binary64}
use Rattle.std.specs.Float.Ieee.{to_bits, of_bits}
use Rattle.model.specs.declared.Player.{Player}
use Rattle.model.specs.declared.ClipInstance.{ClipInstance}
use Rattle.model.specs.Numbers.{0f, 1f, half, three_halves, narrow, first_guess, inv_sqrt}
use Rattle.model.specs.Rotations.{quaternion, entry, quaternion_to_matrix}
use Rattle.model.specs.Clips.{first_index, second_index, factor, set_playback_rate}
use Rattle.model.specs.Tree.{target_length, synchronized_rate}
use Rattle.model.specs.Plan.{root}
use Rattle.model.specs.Controller.{now_at, elapsed}

abbrev pub 2f : Float
2f = of_bits binary32 0x4000_0000

abbrev pub 3f : Float
3f = of_bits binary32 0x4040_0000

abbrev pub 6f : Float
6f = of_bits binary32 0x40c0_0000

abbrev pub 8f : Float
8f = of_bits binary32 0x4100_0000

abbrev pub 2^64f : Float
2^64f = of_bits binary32 0x5f80_0000

abbrev pub 2·5f : Float
2·5f = of_bits binary32 0x4020_0000

abbrev pub 3·5f : Float
3·5f = of_bits binary32 0x4060_0000

abbrev pub -½f : Float
-½f = of_bits binary32 0xbf00_0000

abbrev pub instance : Float → Float → Float → ClipInstance
instance start rate offset = record { start = start; rate = rate; offset = offset }

pub record Bench : Type 0 where
  pub a : to_bits binary32 (inv_sqrt 0f) ≡ 0x5f89_8367
  pub b : first_guess (to_bits binary32 1f) ≡ 0x3f77_59df
  pub c : first_guess 0xbe6e_b3c0 ≡ 0x7fff_ffff
  pub d : first_guess 0xbe6e_b3bf ≡ 0x8000_0000
  pub e : (first_index 4 3·5f ≡ 3) × (second_index 4 3·5f ≡ 0) × (factor 3·5f ≡ half)
  pub f : (first_index 4 -½f ≡ 0) × (second_index 4 -½f ≡ 0) × (factor -½f ≡ -½f)
  pub g : (first_index 4 2^64f ≡ 3) × (second_index 4 2^64f ≡ 3) × (factor 2^64f ≡ 0f)
  -- 1 + 2^-24 and 1 + 3 × 2^-24 by their 64 bits, 1 + 2^-22 by its 32
  pub h : (narrow (of_bits binary64 0x3ff0_0000_1000_0000) ≡ 1f) × (narrow (of_bits binary64 0x3ff0_0000_3000_0000) ≡ of_bits binary32 0x3f80_0002)
  pub i : (synchronized_rate 2f (target_length half 2f 6f) ≡ half) × (synchronized_rate 6f (target_length half 2f 6f) ≡ three_halves)
  pub j : set_playback_rate (instance 0f 1f 0f) 8f half ≡ instance 0f half (of_bits binary32 0x4080_0000)
  pub k : (p : Player) → p.clock ≡ 2f → p.speed ≡ 3f → (now_at p half ≡ 2·5f) × (elapsed p half ≡ 3·5f)
  pub l : entry (quaternion_to_matrix (quaternion half half half half)) 0 1 ≡ 1f

-- joints with these parents, one looping clip of one sample, one state of one node; it wants 1 + 8 × J numbers
unfoldable pub with_parents : List ℕ → List ℕ
with_parents parents = length parents ∷ 1 ∷ 0 ∷ 1 ∷ 0 ∷ parents ++ 1 ∷ 0 ∷ 1 ∷ 0 ∷ 0 ∷ 0 ∷ 0 ∷ 0 ∷ []

unfoldable pub four_hundred : List ℕ
four_hundred = with_parents (replicate 400 root)

unfoldable pub printed_plan : List ℕ
printed_plan = 1 ∷ 1 ∷ 0 ∷ 1 ∷ 0 ∷ 255 ∷ 1 ∷ 0 ∷ 1 ∷ 0 ∷ 0 ∷ 0 ∷ 0 ∷ 0 ∷ []

unfoldable pub printed_numbers : List Float
printed_numbers = 1f ∷ 1f ∷ 2f ∷ 3f ∷ 1f ∷ 1f ∷ 0f ∷ 0f ∷ 0f ∷ []
