-- What the program of document 01 prints is the answer to one of the questions. Assumes nothing.
use Rattle.std.specs.Prelude.{ℕ, ◌≡◌, refl, List}
use Rattle.model.specs.Program.{printed_by, printed}
use Rattle.program.specs.declared.Question.TheVariants.{Frame}
use Rattle.program.specs.Questions.{shown}

pub frame_printed : (text : List ℕ) → printed_by (shown Frame) text ≡ printed text
unfolding shown printed
frame_printed text = refl
