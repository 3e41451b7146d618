-- What is printed of a figure, by what is asked. Definitions only.
use Rattle.std.specs.Prelude.{ℕ, List, Float}
use Rattle.model.specs.Program.{figure_printed}
use Rattle.inspect_uses.specs.UsesText.{uses_shown}
use Rattle.program.specs.declared.Question.{Question}
use Rattle.program.specs.declared.Question.TheVariants.{Frame, Uses}

-- for a text it is model's `printed_by (shown question)`; of `Frame` that is `printed`, the program of document 01 (`frame_printed`)
unfoldable pub shown : Question → List ℕ → List Float → List ℕ
shown Frame plan numbers = figure_printed plan numbers
shown Uses plan numbers = uses_shown plan numbers
