-- A figure's lines behind its joints, the sum of its clips' samples, and a text that passed. Definitions only.
use Rattle.std.specs.Prelude.{ℕ, ◌*◌, ◌≤◌, ◌≡◌, List, length}
use Rattle.model.specs.declared.LineKind.TheVariants.{Clip, Pose}
use Rattle.model.specs.Plan.{max_samples, clip_words}
use Rattle.model.specs.Text.{Reading, bad, got, and_then, times, read_line, read_state, read_end, samples_in}
use Rattle.text.specs.declared.put.Progress.{Progress}

-- nothing is read yet
abbrev pub begin : Progress
begin = record { at = 0; line = 0; words = 0; numbers = 0 }

-- `count` clip lines have these words, and m is the sum of their samples
unfoldable pub sampled : ℕ → ℕ → Reading → Type 0
sampled count m (bad n) = Unit {0}
sampled count m (got ws bs rest n) =
    (length ws ≡ clip_words * count) × (m ≡ samples_in ws count) × (m ≤ count * max_samples)

-- the last parts of read_figure, by their counts
unfoldable pub read_poses : ℕ → List ℕ → Reading
read_poses count s = and_then (times count (read_line Pose) s) (λ _. read_end)

unfoldable pub read_motion : ℕ → ℕ → ℕ → List ℕ → Reading
read_motion joints clips states s =
    and_then (times clips (read_line Clip) s) (λ words s₁.
    and_then (times states read_state s₁) (λ _.
    read_poses (samples_in words clips * joints)))

-- a text without a bad line, and how many words and numbers it has
pub record Judged (words numbers : ℕ) (read : Reading) : Type 0 where
  pub plan : List ℕ
  pub bits : List ℕ
  pub rest : List ℕ
  pub lines : ℕ
  pub reading : read ≡ got plan bits rest lines
  pub plan_length : words ≡ length plan
  pub numbers_length : numbers ≡ length bits
