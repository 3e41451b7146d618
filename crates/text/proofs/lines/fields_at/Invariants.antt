-- The cursor stands behind the fields that are read, and with what stands there they are the line that was begun.
use Rattle.std.proofs.Common.{◌≡◌, length}
use Rattle.model.specs.Text.{forms}
use Rattle.text.specs.LineFound.{max_fields, no_values}
use Rattle.text.specs.LineReading.{line_from}
use Rattle.text.proofs.lines.fields_at.Given as goal

abbrev pub invariant-loop-k : goal.invariant-loop-k
invariant-loop-k l =
    (l.form-items ≡ forms l.fn.kind) × (l.cursor.text.now ≡ l.text) × (length l.read ≡ max_fields)
    × (line_from l.fn.kind l.text l.k l.read l.cursor.at ≡ line_from l.fn.kind l.text 0 no_values l.at)
