-- Document 02, Card 7: what is shown of loops. Definitions only: the theorems are in proofs/Repeats.antt.
use Rattle.std.specs.Prelude.{ℕ, ◌/◌, ◌%◌, ◌≡◌, List, [], ◌∷◌, replicate, Float}
use Rattle.std.specs.Float.Ieee.{nan, of_bits}
use Rattle.std.specs.Float.{binary32}
use Rattle.model.specs.declared.Player.{Player}
use Rattle.model.specs.Numbers.{0f, 1f, floor_index}
use Rattle.model.specs.Answers.{Verdict, accepted, refused}
use Rattle.model.specs.Controller.{with_state, with_parameters, fresh}
use Rattle.model.specs.Run.{frame_player}
use Rattle.model.specs.Loops.{loops_verdict, whole_loops, loop_rest}

abbrev pub CountedAs : ℕ → ℕ → ℕ → ℕ → Type 0
CountedAs samples bits loops rest =
    let index = floor_index (of_bits binary32 bits) in
    (index / samples ≡ loops) × (index % samples ≡ rest)

pub record LoopCases : Type 0 where
  -- four samples, at 3.5, 4, 11.75, 12 and 2^24
  pub first_loop : CountedAs 4 0x4060_0000 0 3
  pub next_loop : CountedAs 4 0x4080_0000 1 0
  pub floor_counts : CountedAs 4 0x413c_0000 2 3
  pub whole_loops_lem : CountedAs 4 0x4140_0000 3 0
  pub exact : CountedAs 3 0x4b80_0000 5592405 1
  -- at 2^64 and infinity the index is 2^64 − 1
  pub largest : CountedAs 4 0x5f80_0000 0x3fff_ffff_ffff_ffff 3
  pub infinite : CountedAs 1 0x7f80_0000 0xffff_ffff_ffff_ffff 0
  -- at −0.5, −0, −infinity and NaN
  pub negative : CountedAs 4 0xbf00_0000 0 0
  pub minus_zero : CountedAs 4 0x8000_0000 0 0
  pub minus_infinity : CountedAs 4 0xff80_0000 0 0
  pub not_a_number_lem : CountedAs 4 0x7fc0_0000 0 0

-- one root; clip 0 stops, clip 1 loops over two samples, clip 2 has none. One state: a lerp of clips 0 and 1, and a lerp of that with clip 2
abbrev pub three_clips : List ℕ
three_clips =
    1 ∷ 3 ∷ 1 ∷ 1 ∷ 0 ∷ 255 ∷ 1 ∷ 1 ∷ 2 ∷ 0 ∷ 0 ∷ 0 ∷
    5 ∷ 0 ∷ 0 ∷ 0 ∷ 0 ∷ 0 ∷ 1 ∷ 0 ∷ 0 ∷ 1 ∷ 0 ∷ 1 ∷ 0 ∷ 0 ∷ 2 ∷ 0 ∷ 0 ∷ 1 ∷ 2 ∷ 3 ∷ 0 ∷ 0 ∷ []

-- three rates of 1, and poses of zeros
abbrev pub three_numbers : List Float
three_numbers = 1f ∷ 1f ∷ 1f ∷ replicate 24 0f

abbrev pub asked : Player → ℕ → ℕ → Verdict
asked p s n = loops_verdict three_clips three_numbers p s n

abbrev pub player : Player
player = fresh three_clips three_numbers

pub record Judged : Type 0 where
  pub accepts : asked player 0 1 ≡ accepted
  -- 16: absent state, absent node, a lerp, also where the word a would name a clip that stops or is empty
  pub no_state : asked player 1 1 ≡ refused 16 0 0
  pub no_node : asked player 0 5 ≡ refused 16 0 0
  pub no_clip : asked player 0 2 ≡ refused 16 0 0
  pub no_clip_either : asked player 0 4 ≡ refused 16 0 0
  -- 17: stopping, empty
  pub stopping : asked player 0 0 ≡ refused 17 0 0
  pub empty : asked player 0 3 ≡ refused 17 0 0
  -- 9 comes before both
  pub other_state : asked (with_state player 1) 0 2 ≡ refused 9 0 0

-- Parameter 0 is NaN, by which a frame synchronises clips 0 and 1: the count is that of the instance before it
abbrev pub unsettled : Player
unsettled = with_parameters player (replicate 32 nan)

pub record NotSynchronized : Type 0 where
  pub before : (whole_loops three_clips three_numbers unsettled 0 1 (of_bits binary32 0x40e0_0000) ≡ 7) × (loop_rest three_clips three_numbers unsettled 0 1 (of_bits binary32 0x40e0_0000) ≡ 0)
  pub behind_a_frame :
      let p = frame_player three_clips three_numbers unsettled 0f in
      (whole_loops three_clips three_numbers p 0 1 (of_bits binary32 0x40e0_0000) ≡ 0) × (loop_rest three_clips three_numbers p 0 1 (of_bits binary32 0x40e0_0000) ≡ 0)
