-- Lower-case hexadecimal digits: sixteen are the bits of a 64-bit float in a list of calls. Definitions only.
use Rattle.std.specs.Prelude.{ℕ, ◌+◌, cond, List, drop, eqb, Option, Some, None}
use Rattle.model.specs.Text as Text
use Rattle.model.specs.Text.{digit_count, numeral}
use Rattle.fields.specs.declared.Field.{Field}

-- a run of just so many digits: in front of a text, and at a place of one
abbrev pub hexadecimal_in : ℕ → List ℕ → Text.Field
hexadecimal_in count s = cond (eqb (digit_count 16 s) count) (Text.field (numeral 16 count s) (drop count s)) Text.none

abbrev pub hexadecimal_at : ℕ → List ℕ → ℕ → Option Field
hexadecimal_at count text at =
    let s = drop at text in
    cond (eqb (digit_count 16 s) count) (Some (record { value = numeral 16 count s; end = at + count })) None

unfoldable pub wide_bits_in : List ℕ → Text.Field
wide_bits_in s = hexadecimal_in 16 s

unfoldable pub wide_bits_at : List ℕ → ℕ → Option Field
wide_bits_at text at = hexadecimal_at 16 text at
