-- What a field's value is bounded by, for what the reader's functions say of a line. Definitions only.
use Rattle.std.specs.Prelude.{ℕ, ◌≤◌, ◌<◌, ◌^◌}
use Rattle.model.specs.declared.FieldForm.{FieldForm}
use Rattle.model.specs.declared.FieldForm.TheVariants.{Decimal, Bits}
use Rattle.model.specs.Text.{max_word}

-- a value by the form of its field
abbrev pub Bounded : FieldForm → ℕ → Type 0
Bounded (Decimal limit) v = (v ≤ limit) × (v ≤ max_word)
Bounded Bits v = v < 2 ^ 32
