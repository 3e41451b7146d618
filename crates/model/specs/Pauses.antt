-- Document 02, Card 2: what is shown of a clip without samples. Definitions only: the theorems are in proofs/Pauses.antt.
use Rattle.model.specs.Stopping.{two_clips}
use Rattle.std.specs.Prelude.{ℕ, ◌+◌, ◌*◌, ◌≡◌, true, List, [], ◌∷◌, Float}
use Rattle.model.specs.declared.FrameKind.TheVariants.{Ordinary}
use Rattle.model.specs.Numbers.{0f, 1f}
use Rattle.model.specs.Answers.{accepted, refused}
use Rattle.model.specs.Plan.{max_samples, sample_count, is_clip, input_a}
use Rattle.model.specs.Check.{check}
use Rattle.model.specs.Run.{start_player, Frame, chosen_floats}

-- node i plays a clip without samples
abbrev pub Pauses : List ℕ → ℕ → ℕ → Type 0
Pauses plan s i = (is_clip plan s i ≡ true) × (sample_count plan (input_a plan s i) ≡ 0)

pub record CountJudged : Type 0 where
  -- a clip without samples has no poses: of these numbers two are rates
  pub none : check (two_clips 0 0 1 0) 10 ≡ accepted
  pub stopping : check (two_clips 0 1 1 0) 10 ≡ accepted
  pub in_both : check (two_clips 0 0 0 1) 2 ≡ accepted
  pub poses_left_over : check (two_clips 0 0 1 0) 18 ≡ refused 7 0 0
  -- its ending is judged as any other's
  pub wrong_ending : check (two_clips 0 2 1 0) 10 ≡ refused 14 7 0
  -- '2 is no longer given for it', but above the limit
  pub most : check (two_clips max_samples 0 0 0) (2 + 8 * max_samples) ≡ accepted
  pub too_many : check (two_clips (max_samples + 1) 0 0 0) 2 ≡ refused 2 6 0

abbrev pub Shows : List ℕ → Float → Float → Float → Type 0
Shows plan rate other ext =
    let numbers : List Float = rate ∷ other ∷ [] in
    chosen_floats plan numbers (0 ∷ []) (start_player plan numbers) (Frame Ordinary ext 16)
    ≡ (1f ∷ 0f ∷ 0f ∷ 0f ∷ 0f ∷ 1f ∷ 0f ∷ 0f ∷ 0f ∷ 0f ∷ 1f ∷ 0f ∷ 0f ∷ 0f ∷ 0f ∷ 1f ∷ []) ∷ []
