-- What `line_at` makes of the line that stands at its place: its answer, and the array of values. Definitions only.
use Rattle.std.specs.Prelude.{ℕ, ◌-◌, ◌≡◌, List, length, replicate, Option, Some, None}
use Rattle.std.proofs.lemmas.List.Edits.{sets}
use Rattle.model.specs.Text.{Line, malformed, line}

-- the array has room for so many; it begins with zeros
abbrev pub max_fields : ℕ
max_fields = 8

abbrev pub no_values : List ℕ
no_values = replicate max_fields 0

-- the place behind the LF: as far from the text's end as what is left of it is long
unfoldable pub found_end : List ℕ → Line → Option ℕ
found_end text malformed = None
found_end text (line vs rest) = Some (length text - length rest)

-- the fields' values and zeros behind them; of a malformed line none, and the array is as it was
unfoldable pub found_values : Line → List ℕ → List ℕ
found_values malformed old = old
found_values (line vs rest) old = sets no_values 0 vs

-- both, from an array to another
pub record LineFound (text : List ℕ) (read : Line) (end : Option ℕ) (old new : List ℕ) : Type 0 where
  pub answer : end ≡ found_end text read
  pub values : new ≡ found_values read old
