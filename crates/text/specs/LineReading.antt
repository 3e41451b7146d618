-- A line of which some fields are read, and the next of them. Definitions only.
use Rattle.std.specs.Prelude.{ℕ, cond, ◌≡◌, List, drop, eqb, Option, Some, None}
use Rattle.std.proofs.lemmas.List.Edits.{sets}
use Rattle.model.specs.declared.LineKind.{LineKind}
use Rattle.model.specs.declared.FieldForm.{FieldForm}
use Rattle.model.specs.Text.{front, comma, Field, none, field, field_in, Line, malformed, line, forms, fields_in}

-- a comma, and a field of a form
unfoldable pub comma_field : FieldForm → List ℕ → Field
comma_field form s = cond (eqb (front s) comma) (field_in form (drop 1 s)) none

-- what a step to the next field makes of a place of the text: it goes behind the field, or stays where none is
abbrev pub Stepped : FieldForm → List ℕ → ℕ → ℕ → Option ℕ → Type 0
Stepped form text before after None = (after ≡ before) × (comma_field form (drop before text) ≡ none)
Stepped form text before after (Some v) = comma_field form (drop before text) ≡ field v (drop after text)

-- a line with the whole array for its values, in which they are stored from place k on
abbrev pub in_array : ℕ → List ℕ → Line → Line
in_array k array malformed = malformed
in_array k array (line vs rest) = line (sets array k vs) rest

-- the line whose first k fields are read, with these values, and whose others stand at a place
unfoldable pub line_from : LineKind → List ℕ → ℕ → List ℕ → ℕ → Line
line_from kind text k values at = in_array k values (fields_in (drop k (forms kind)) (drop at text))
