-- `input_file::words` meets its contract. Invariant: from `i` on the words end where they end from the start on. Assumes nothing.
use Rattle.std.proofs.Common.{◌≡◌, ◌+◌}
use Rattle.std.specs.Prelude.{drop}
use Rattle.input_file.specs.Words.{words_size}
use Rattle.input_file.proofs.words.Given as goal

abbrev pub invariant-loop-i : goal.invariant-loop-i
invariant-loop-i l = words_size l.text ≡ l.i + words_size (drop l.i l.text)
