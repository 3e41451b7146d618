-- What a program reads of the text of a figure: its answer, and what its slices hold afterwards. Definitions only.
use Rattle.std.specs.Prelude.{ℕ, ◌≡◌, cond, List, length, ltb, Float, Result}
use Rattle.model.specs.declared.Lengths.{Lengths}
use Rattle.model.specs.declared.Refusal.{Refusal}
use Rattle.model.specs.Text.{Reading, bad, got, read_figure, TextVerdict, accepted, refused, text_values, when_accepted}
use Rattle.model.specs.Text.{overwritten, read_words, read_floats}
use Rattle.model.specs.Program.{max_text}

-- 11, else how many words and numbers were read. There is no 12: a program's slices hold every figure that it reads
unfoldable pub reading_verdict : Reading → TextVerdict
reading_verdict (bad n) = refused 11 n 0
reading_verdict (got ws bs rest n) = accepted (length ws) (length bs)

-- 13, then the reader's
unfoldable pub program_verdict : List ℕ → TextVerdict
program_verdict text = cond (ltb max_text (length text)) (refused 13 max_text 0) (reading_verdict (read_figure text))

-- Both slices, given as what they hold when the call begins and when it returns
pub record ProgramTextRead (text plan_old plan_new : List ℕ) (numbers_old numbers_new : List Float) (r : Result Lengths Refusal)
    : Type 0 where
  pub answer : text_values r ≡ program_verdict text
  pub plan : plan_new ≡ when_accepted (program_verdict text) (overwritten (read_words (read_figure text)) plan_old) plan_old
  pub numbers : numbers_new
      ≡ when_accepted (program_verdict text) (overwritten (read_floats (read_figure text)) numbers_old) numbers_old
