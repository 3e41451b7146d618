-- How many words a row and an answer have at the most. Definitions only.
use Rattle.std.specs.Prelude.{ℕ}
use Rattle.model.specs.Plan.{output_at}

-- two matrices
abbrev pub max_operands : ℕ
max_operands = output_at 2

-- one
abbrev pub max_words : ℕ
max_words = output_at 1
