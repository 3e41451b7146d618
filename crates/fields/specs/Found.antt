-- The field at a place of a text as the reader has it, and what is left of the text behind it. Definitions only.
use Rattle.std.specs.Prelude.{ℕ, ◌+◌, cond, List, drop, Option, Some, None}
use Rattle.model.specs.declared.FieldForm.{FieldForm}
use Rattle.model.specs.Text as Text
use Rattle.model.specs.Text.{digit_count, numeral, base_of, is_field}
use Rattle.fields.specs.declared.Field.{Field}

-- the number of all digits that stand there, where they are a field, and the place behind the last of them
unfoldable pub field_at : FieldForm → List ℕ → ℕ → Option Field
field_at form text at =
    let s = drop at text in
    let k = digit_count (base_of form) s in
    cond (is_field form k s) (Some (record { value = numeral (base_of form) k s; end = at + k })) None

-- a field by its value and the text behind it, as the model's definitions have it
unfoldable pub found : List ℕ → Option Field → Text.Field
found text (Some f) = Text.field f.value (drop f.end text)
found text None = Text.none
